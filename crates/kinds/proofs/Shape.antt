-- The shape of what elimination answers: lengths and the limit. Assumes nothing.
use Rattle.std.proofs.Common.{◌≡◌, ℕ, zero, suc, ◌+◌, ◌≤◌, Bool, true, false, ◌||◌, ◌≢◌, ◌⊎◌, List, [], ◌∷◌, map, length, get_or, take, replicate, Ok, Err, Result, sym, refl, ap, ◌∙◌, subst, ap₂, inl, inr, arith}
use Rattle.std.proofs.lemmas.List.{length-append, length-map, length-set, length-replicate, length-take-le}
use Rattle.std.specs.Prelude.{nat_lt}
use Rattle.std.specs.List.{AllByRecursion}
use Rattle.std.proofs.lemmas.Bool.{cond_both, or_parts, or_from}
use Rattle.kinds.specs.Kinds.{Kind, Lawful, past}
use Rattle.kinds.specs.Elimination.{at, less, divisor_from, stepped, negated_if, leads_below, unit, starts, any_past, Handled, kept, balance, passes}
use Rattle.kinds.proofs.Filing.{put, filed_handled, by_case, with_balance, filed_eliminated, filed_eliminate}
use Rattle.kinds.proofs.Ring.{found_nonzero}
use Rattle.kinds.proofs.Filed.{put_all}

module _ {K : Kind} (L : Lawful K) where
  open K use {Num as A, zero as 𝟘}

  length_less : (a : A) (r : List A) (c : A) (s : List A) → length r ≡ length s → length (less K a r c s) ≡ length r
  length_less a [] c [] e = refl
  length_less a [] c (y ∷ ys) e = absurd (omega arith)
  length_less a (x ∷ xs) c [] e = absurd (omega arith)
  length_less a (x ∷ xs) c (y ∷ ys) e = ap suc (length_less a xs c ys (omega arith))

  length_unit : (n b : ℕ) → length (unit K n b) ≡ n
  length_unit n b = length-set (replicate n 𝟘) b K.one ∙ length-replicate n 𝟘

  starts_sized : (n m b : ℕ) (fs : List (List A)) → AllByRecursion (λ f. length f ≡ m) fs → AllByRecursion (λ r. length r ≡ n + m) (starts K n b fs)
  starts_sized n m b [] all = tt
  starts_sized n m b (f ∷ fs) all = (length-append (unit K n b) f ∙ ap₂ (λ x y. x + y) (length_unit n b) all.0, starts_sized n m (suc b) fs all.1)

  length_starts : (n b : ℕ) (fs : List (List A)) → length (starts K n b fs) ≡ length fs
  length_starts n b [] = refl
  length_starts n b (f ∷ fs) = ap suc (length_starts n (suc b) fs)

module _ {K : Kind} (L : Lawful K) where
  open K use {Num as A, zero as 𝟘, is_zero}

  past_negated : (r : List A) → any_past K (map K.neg r) ≡ any_past K r
  past_negated [] = refl
  past_negated (x ∷ xs) = ap₂ (λ a b. a || b) (ap (nat_lt K.limit) (L.size_neg x)) (past_negated xs)

  past_front : (n : ℕ) (r : List A) → any_past K r ≡ false → any_past K (take n r) ≡ false
  past_front zero r e = refl
  past_front (suc n) [] e = refl
  past_front (suc n) (x ∷ r) e = let p = or_parts (past K x) (any_past K r) e in or_from (past K x) (any_past K (take n r)) p.0 (past_front n r p.1)

  -- a row of N numbers within the limit
  abbrev Fit : ℕ → List A → Type 0
  Fit N r = (length r ≡ N) × (any_past K r ≡ false)

  abbrev Fits : ℕ → Handled A → Type 0
  Fits N (kept j q) = Fit N q
  Fits N (balance q) = Fit N q
  Fits N passes = Unit {0}

  fit_signed : (N : ℕ) (b : Bool) (r : List A) → Fit N r → Fit N (negated_if K b r)
  fit_signed N true r f = (length-map r K.neg ∙ f.0, past_negated r ∙ f.1)
  fit_signed N false r f = f

  length_stepped : (N : ℕ) (c p : A) (r s : List A) → length r ≡ N → length s ≡ N → length (stepped K c p r s) ≡ N
  length_stepped N c p r s er es =
      let g : A = K.divisor c p in
      let l : List A = less K (K.quotient p g) r (K.quotient c g) s in
      length-map l (λ x. K.quotient x (divisor_from K 𝟘 l)) ∙ length_less L (K.quotient p g) r (K.quotient c g) s (er ∙ sym es) ∙ er

  Slots : ℕ → List (List A) → Type 0
  Slots N rows = (j : ℕ) → (get_or rows j [] ≡ []) ⊎ Fit N (get_or rows j [])

  slot_length : (N i : ℕ) (s : List A) → (s ≡ []) ⊎ Fit N s → at K s i ≢ 𝟘 → length s ≡ N
  slot_length N i s (inl e) h = absurd (h (ap (λ x. at K x i) e))
  slot_length N i s (inr f) h = f.0

  fits : (n N : ℕ) (rows : List (List A)) → Slots N rows → (columns j : ℕ) (r : List A) → Fit N r → Fits N (filed_handled K n rows columns j r)
  unfolding filed_handled Slots
  fits n N rows slots zero j r f = fit_signed N (leads_below K n r) r f
  fits n N rows slots (suc columns) j r f =
      let c : A = at K r (n + j) in
      let s : List A = get_or rows j [] in
      let p : A = at K s (n + j) in
      let q : List A = stepped K c p r s in
      cond_both (is_zero c) _ _ (Fits N)
      (λ _. fits n N rows slots columns (suc j) r f)
      (λ _. cond_both (is_zero p) _ _ (Fits N)
      (λ _. fit_signed N (K.below c) r f)
      (λ np. cond_both (any_past K q) passes (filed_handled K n rows columns (suc j) q) (Fits N) (λ _. tt)
      (λ w. fits n N rows slots columns (suc j) q (length_stepped N c p r s f.0 (slot_length N (n + j) s (slots j) (found_nonzero L p np)), w))))

  -- the weights of the Ok
  abbrev Weights : ℕ → ℕ → Result (List (List A)) ℕ → Type 0
  Weights n l (Ok ws) = AllByRecursion (Fit n) ws × (length ws ≤ l)
  Weights n l (Err b) = Unit {0}

  weights_more : (n l : ℕ) (a : Result (List (List A)) ℕ) → Weights n l a → Weights n (suc l) a
  weights_more n l (Ok ws) w = (w.0, omega (arith, w.1))
  weights_more n l (Err b) w = tt

  weights_with : (n l : ℕ) (q : List A) (a : Result (List (List A)) ℕ) → Fit n q → Weights n l a → Weights n (suc l) (with_balance q a)
  weights_with n l q (Ok ws) f w = ((f, w.0), omega (arith, w.1))
  weights_with n l q (Err b) f w = tt

  abbrev Shapes : ℕ → ℕ → List (List A) → Type 0
  Shapes n m rs = (rows : List (List A)) (b : ℕ) → Slots (n + m) rows → AllByRecursion (λ r. length r ≡ n + m) rs → Weights n (length rs) (filed_eliminated K n m rows b rs)

  shape_step : (n m : ℕ) (r : List A) (rs : List (List A)) → Shapes n m rs → Shapes n m (r ∷ rs)
  unfolding filed_eliminated Slots
  shape_step n m r rs ih rows b slots all =
      cond_both (any_past K r) (Err b) (next (filed_handled K n rows m 0 r)) (Weights n (suc (length rs))) (λ _. tt)
      (λ w. go (filed_handled K n rows m 0 r) (fits n (n + m) rows slots m 0 r (all.0, w)))
    where
      next : Handled A → Result (List (List A)) ℕ
      next h = by_case (λ j q. filed_eliminated K n m (put rows j q) (suc b) rs) (λ q. with_balance (take n q) (filed_eliminated K n m rows (suc b) rs)) (Err b) h

      go : (h : Handled A) → Fits (n + m) h → Weights n (suc (length rs)) (next h)
      go (kept j q) f = weights_more n (length rs) (filed_eliminated K n m (put rows j q) (suc b) rs) (ih (put rows j q) (suc b) (put_all (λ _ s. (s ≡ []) ⊎ Fit (n + m) s) rows j q slots (inr f)) all.1)
      go (balance q) f = weights_with n (length rs) (take n q) (filed_eliminated K n m rows (suc b) rs) (length-take-le n q (omega arith), past_front n q f.1) (ih rows (suc b) slots all.1)
      go passes f = tt

  shapes : (n m : ℕ) (rs : List (List A)) → Shapes n m rs
  unfolding filed_eliminated
  shapes n m [] rows b slots all = (tt, omega arith)
  shapes n m (r ∷ rs) rows b slots all = shape_step n m r rs (shapes n m rs) rows b slots all

  no_slots : (N : ℕ) → Slots N []
  unfolding Slots
  no_slots N j = inl refl

  pub filed_shaped : (m : ℕ) (fs ws : List (List A)) → AllByRecursion (λ f. length f ≡ m) fs → filed_eliminate K m fs ≡ Ok ws → AllByRecursion (λ w. (length w ≡ length fs) × (any_past K w ≡ false)) ws × (length ws ≤ length fs)
  unfolding filed_eliminate
  filed_shaped m fs ws all e =
      let n : ℕ = length fs in
      let w : Weights n (length (starts K n 0 fs)) (filed_eliminate K m fs) = shapes n m (starts K n 0 fs) [] 0 (no_slots (n + m)) (starts_sized L n m 0 fs all) in
      let v : Weights n (length (starts K n 0 fs)) (Ok ws) = subst (Weights n (length (starts K n 0 fs))) e w in
      (v.0, rw (← length_starts L n 0 fs) v.1)
