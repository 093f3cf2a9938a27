-- One row of an elimination, and the starting rows.
use Rattle.std.proofs.Common.{◌≡◌, ℕ, zero, suc, ◌+◌, ◌-◌, ◌*◌, ◌<◌, ◌≤◌, true, false, cond, List, [], ◌∷◌, ◌++◌, map, length, take, drop, ℤ, Some, None, Ok, Err, Result, MatchResult, sym, refl, ap, ◌∙◌, ap₂, subst, suc-mul, zero-mul, arith}
use Rattle.std.proofs.lemmas.List.{drop-drop, drop_all, take-map, drop-map}
use Rattle.std.specs.Option.{option_map_or}
use Rattle.std.specs.Result.{result_or}
use Rattle.kinds.specs.Kinds.{Kind}
use Rattle.kinds.specs.Elimination.{Handled, handled, any_past, State, added, eliminated, unit, starts, eliminate}
use Rattle.elimination.specs.Memory.{rows_of, kept_of, state_of}
use Rattle.elimination.specs.Answers.{balances_of}
use Rattle.elimination.proofs.Written.{length_rows}

module _ (K : Kind) (n m : ℕ) where
  starts_more : (i k b : ℕ) (xs : List K.Num) → i < k → drop i (starts K n b (rows_of k m xs)) ≡ (unit K n (b + i) ++ take m (drop (i * m) xs)) ∷ drop (i + 1) (starts K n b (rows_of k m xs))
  starts_more i zero b xs h = absurd (omega arith)
  starts_more zero (suc k) b xs h =
      let e : b ≡ b + 0 = omega arith in
      ap₂ (λ x z. (unit K n x ++ take m (drop z xs)) ∷ starts K n (suc b) (rows_of k m (drop m xs))) e (sym (zero-mul m))
  starts_more (suc i) (suc k) b xs h =
      let e : suc b + i ≡ b + suc i = omega arith in
      let f : i + 1 + 1 ≡ suc i + 1 = omega arith in
      let g : i + 1 + 1 ≡ suc (i + 1) = omega arith in
      let z : m + i * m ≡ suc i * m = omega (arith, suc-mul i m) in
      starts_more i k (suc b) (drop m xs) (omega arith)
      ∙ ap₂ (λ x ys. (unit K n x ++ take m ys) ∷ drop (i + 1) (starts K n (suc b) (rows_of k m (drop m xs)))) e (drop-drop (i * m) m xs ∙ ap (λ x. drop x xs) z)
      ∙ ap (λ x. (unit K n (b + suc i) ++ take m (drop (suc i * m) xs)) ∷ drop x (starts K n b (rows_of (suc k) m xs))) (sym g ∙ f)

  length_starts : (k b : ℕ) (xs : List K.Num) → length (starts K n b (rows_of k m xs)) ≡ k
  length_starts zero b xs = refl
  length_starts (suc k) b xs = ap suc (length_starts k (suc b) (drop m xs))

  -- the starting rows from number k on
  abbrev pub left : List ℤ → ℕ → List (List K.Num)
  left xs k = drop k (starts K n 0 (rows_of n m (map K.counts xs)))

  pub begins : (xs : List ℤ) → eliminated K n m (record { rows = []; balances = [] }) 0 (left xs 0) ≡ balances_of K n m xs
  unfolding eliminate
  begins xs = ap (λ k. eliminated K k m (record { rows = []; balances = [] }) 0 (starts K k 0 (rows_of n m (map K.counts xs)))) (sym (length_rows m n (map K.counts xs)))

  pub ends : (xs : List ℤ) (s : State K.Num) (b : ℕ) → n ≤ b → eliminated K n m s b (left xs b) ≡ Ok s.balances
  unfolding eliminated
  ends xs s b h = ap (eliminated K n m s b) (drop_all b (starts K n 0 (rows_of n m (map K.counts xs))) (omega (arith, length_starts n 0 (map K.counts xs))))

module _ (K : Kind) (n m b : ℕ) (lt : b < n) (xs part : List ℤ) (ep : part ≡ take m (drop (b * m) xs)) (s : State K.Num) where
  abbrev r : List K.Num
  r = unit K n b ++ map K.counts part

  opened : eliminated K n m s b (left K n m xs b) ≡ cond (any_past K r) (Err b) (option_map_or (λ t. eliminated K n m t (b + 1) (left K n m xs (b + 1))) (added K n s (handled K n s.rows m 0 r)) (Err b))
  unfolding eliminated
  opened =
      let e : suc b ≡ b + 1 = omega arith in
      let z : 0 + b ≡ b = omega arith in
      let p = ap (map K.counts) ep ∙ sym (take-map K.counts m (drop (b * m) xs)) ∙ ap (take m) (sym (drop-map K.counts (b * m) xs)) in
      ap (eliminated K n m s b) (starts_more K n m b n 0 (map K.counts xs) lt ∙ ap₂ (λ x y. (unit K n x ++ y) ∷ left K n m xs (b + 1)) z (sym p))
      ∙ ap (λ k. cond (any_past K r) (Err b) (option_map_or (λ t. eliminated K n m t k (left K n m xs (b + 1))) (added K n s (handled K n s.rows m 0 r)) (Err b))) e

  pub starts_past : any_past K r ≡ true → eliminated K n m s b (left K n m xs b) ≡ Err b
  starts_past e = opened ∙ simp e

  pub steps_past : any_past K r ≡ false → (h : Handled K.Num) → h ≡ handled K n s.rows m 0 r → added K n s h ≡ None → eliminated K n m s b (left K n m xs b) ≡ Err b
  steps_past e h eh f = let g : added K n s (handled K n s.rows m 0 r) ≡ None = ap (added K n s) (sym eh) ∙ f in opened ∙ simp (e, g)

  pub turns : any_past K r ≡ false → (h : Handled K.Num) → h ≡ handled K n s.rows m 0 r → (t : State K.Num) → added K n s h ≡ Some t → eliminated K n m s b (left K n m xs b) ≡ eliminated K n m t (b + 1) (left K n m xs (b + 1))
  turns e h eh t f = let g : added K n s (handled K n s.rows m 0 r) ≡ Some t = ap (added K n s) (sym eh) ∙ f in opened ∙ simp (e, g)

-- the row in memory, as long as the rows are, against the kept rows in memory
pub same_handled : (K : Kind) (n m size : ℕ) → size ≡ n + m → {ts us : List ℕ} → ts ≡ us → (rows : List K.Num) {q r : List K.Num} → q ≡ r → handled K n (kept_of (n + m) ts rows) (size - n) 0 q ≡ handled K n (kept_of (n + m) us rows) m 0 r
same_handled K n m size e {ts} {us} et rows {q} {r} er =
    let f : size - n ≡ m = omega arith in
    ap (λ k. handled K n (kept_of (n + m) ts rows) k 0 q) f ∙ ap₂ (λ x y. handled K n (kept_of (n + m) x rows) m 0 y) et er

-- nothing is filed at the start
pub nothing_filed : {A : Type 0} (n size used found : ℕ) (leads : List ℕ) (rows balances : List A) → used ≡ 0 → found ≡ 0 → state_of n size used found leads rows balances ≡ record { rows = []; balances = [] }
nothing_filed n size used found leads rows balances u f = ap₂ (λ x y. state_of n size x y leads rows balances) u f

pub nothing_written : (K : Kind) (n found : ℕ) (weights : List ℤ) → found ≡ 0 → map K.writes (map K.counts (take (found * n) weights)) ≡ take (found * n) weights
nothing_written K n found weights e =
    let z : found * n ≡ 0 = ap (λ k. k * n) e ∙ zero-mul n in
    ap (λ k. map K.writes (map K.counts (take k weights))) z ∙ sym (ap (λ k. take k weights) z)

-- a row's refusal under its number
pub refused : {X E D : Type 0} (r : Result X E) (l e : D) (P : X → Type 0) (Q : E → Type 0) → result_or r (Err l) ≡ Err e → MatchResult r P Q → (e ≡ l) × ((x : E) × Q x)
refused (Ok y) l e P Q h m = absurd (let z : ◌≡◌ {A = ℕ} 0 1 = cc in omega arith)
refused (Err x) l e P Q h m = (cc, (x, m))

pub passed : {X E D : Type 0} (r : Result X E) (l : D) (x : X) (P : X → Type 0) (Q : E → Type 0) → result_or r (Err l) ≡ Ok x → MatchResult r P Q → P x
passed (Ok y) l x P Q h m = let e : y ≡ x = cc in subst P e m
passed (Err e) l x P Q h m = absurd (let z : ◌≡◌ {A = ℕ} 0 1 = cc in omega arith)
