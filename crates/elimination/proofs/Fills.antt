-- The steps of the loops over one row.
use Rattle.std.proofs.Common.{◌≡◌, ℕ, zero, suc, ◌+◌, ◌<◌, Bool, true, false, cond, not, Option, Some, None, MatchOption, ◌||◌, List, [], ◌∷◌, ◌++◌, map, length, get_or, take, drop, set, replicate, sym, refl, ap, ◌∙◌, ap₂, arith}
use Rattle.std.proofs.lemmas.List.{length-append, append_assoc, take_more_set, drop_more, drop-set-lt, drop-drop, map_push, map_more, map-set, length-map, length-take-le, set_at}
use Rattle.std.proofs.lemmas.List.Folds.{list_any-append}
use Rattle.std.proofs.Math.Seq.{take-set-lt}
use Rattle.std.specs.List.{find}
use Rattle.std.specs.Option.{option_map, option_map_or}
use Rattle.kinds.specs.Kinds.{Kind, Lawful, past}
use Rattle.kinds.proofs.Ring.{neg_mul}
use Rattle.kinds.specs.Elimination.{less, any_past, leads_below, unit}

module _ (K : Kind) (a c : K.Num) where
  less_push : (xs ys : List K.Num) (x y : K.Num) → length xs ≡ length ys → less K a (xs ++ x ∷ []) c (ys ++ y ∷ []) ≡ less K a xs c ys ++ K.add (K.mul a x) (K.neg (K.mul c y)) ∷ []
  less_push [] [] x y e = refl
  less_push [] (u ∷ ys) x y e = absurd (omega arith)
  less_push (z ∷ xs) [] x y e = absurd (omega arith)
  less_push (z ∷ xs) (u ∷ ys) x y e = ap (λ zs. K.add (K.mul a z) (K.neg (K.mul c u)) ∷ zs) (less_push xs ys x y (omega arith))

  pub less_more : {S T : Type 0} (sum : S → K.Num) (value : T → K.Num) (out : List S) (row other : List T) (i : ℕ) (w : S) (x y : T) → i < length out → i < length row → i < length other → x ≡ get_or row i x → y ≡ get_or other i y → sum w ≡ K.add (K.mul a (value x)) (K.neg (K.mul c (value y))) → map sum (take i out) ≡ less K a (map value (take i row)) c (map value (take i other)) → map sum (take (i + 1) (set out i w)) ≡ less K a (map value (take (i + 1) row)) c (map value (take (i + 1) other))
  less_more sum value out row other i w x y lo lr lk ex ey ew inv =
      let s = ap (map sum) (take_more_set out i w lo) ∙ map_push sum (take i out) w in
      let b = map_more value row i x lr in
      let d = map_more value other i y lk in
      let n : length (map value (take i row)) ≡ length (map value (take i other)) = simp length-map (omega (arith, length-take-le i row (omega arith), length-take-le i other (omega arith))) in
      let f = less_push (map value (take i row)) (map value (take i other)) (value x) (value y) n in
      cc

-- a x less c y is the sum of a x and (-c) y
pub sum_less : {K : Kind} (L : Lawful K) {a x c y m s : K.Num} → m ≡ K.neg c → s ≡ K.add (K.mul a x) (K.mul m y) → s ≡ K.add (K.mul a x) (K.neg (K.mul c y))
sum_less {K} L {a} {x} {c} {y} em es = es ∙ ap (K.add (K.mul a x)) (ap (λ u. K.mul u y) em ∙ neg_mul L c y)

-- the first nonzero of the first numbers, as it is found
pub leads_found : (K : Kind) {X : Type 0} (value : X → K.Num) (n : ℕ) (row : List X) → leads_below K n (map value row) ≡ option_map_or (λ x. K.below (value x)) (find (λ x. not (K.is_zero (value x))) (take n row)) false
leads_found K value zero row = refl
leads_found K value (suc n) [] = refl
leads_found K {X} value (suc n) (x ∷ row) = go (K.is_zero (value x)) _ (leads_found K value n row)
  where
    go : (b : Bool) {rest : Bool} (found : Option X) → rest ≡ option_map_or (λ x. K.below (value x)) found false → cond b rest (K.below (value x)) ≡ option_map_or (λ x. K.below (value x)) (cond (not b) (Some x) found) false
    go true found ih = ih
    go false found ih = refl

-- the test of the element that is found
pub some_and : {A B : Type 0} (o : Option A) (r : Bool) (v : A → B) (f : B → Bool) (P : A → Type 0) → MatchOption o (r ≡ false) P → ((x : A) → P x → r ≡ f (v x)) → r ≡ option_map_or f (option_map v o) false
some_and None r v f P m h = m
some_and (Some x) r v f P m h = h x m

-- a loop that writes over each element x one that means h of what x means
module _ {W N : Type 0} (f : W → N) (h : N → N) where
  abbrev pub Mapped : List W → List W → ℕ → Type 0
  Mapped start row i = (map f (take i row) ≡ map h (map f (take i start))) × (drop i row ≡ drop i start)

  pub mapped_more : (start row : List W) (i : ℕ) (x w : W) → i < length row → length row ≡ length start → x ≡ get_or row i x → f w ≡ h (f x) → Mapped start row i → Mapped start (set row i w) (i + 1)
  mapped_more start row i x w lr ls ex ew inv =
      let a = ap (map f) (take_more_set row i w lr) ∙ map_push f (take i row) w in
      let l : i < length start = omega arith in
      let b = map_more f start i x l in
      let m = map_push h (map f (take i start)) (f (get_or start i x)) in
      let s = ap (λ zs. get_or zs 0 x) (sym (drop_more row i x lr) ∙ inv.1 ∙ drop_more start i x l) in
      let p = inv.0 in
      (cc, drop-set-lt (i + 1) row i w (omega arith) ∙ sym (drop-drop 1 i row) ∙ ap (drop 1) inv.1 ∙ drop-drop 1 i start)

-- ---- the weights of a starting row
pub weights_set : (K : Kind) {T : Type 0} (value : T → K.Num) (row : List T) (n b : ℕ) (x : T) → b < n → value x ≡ K.one → map value (take n row) ≡ replicate n K.zero → map value (take n (set row b x)) ≡ unit K n b
weights_set K value row n b x lt e inv =
    ap (map value) (take-set-lt n row b x lt) ∙ map-set value (take n row) b x ∙ ap₂ (λ zs y. set zs b y) inv e

-- what stands in memory is within the limit
past_none : (K : Kind) {T : Type 0} (value : T → K.Num) → ((x : T) → past K (value x) ≡ false) → (xs : List T) → any_past K (map value xs) ≡ false
past_none K value h [] = refl
past_none K value h (x ∷ xs) = ap₂ (λ a b. a || b) (h x) (past_none K value h xs)

pub past_behind : (K : Kind) {T : Type 0} (value : T → K.Num) → ((x : T) → past K (value x) ≡ false) → (row : List T) (front ys : List K.Num) → map value row ≡ front → any_past K (front ++ ys) ≡ any_past K ys
past_behind K value h row front ys e = list_any-append (past K) front ys ∙ ap (λ b. b || any_past K ys) (ap (any_past K) (sym e) ∙ past_none K value h row)

-- one more number is written
pub written_more : {T N Z : Type 0} (h : N → Z) (f : T → N) (xs : List T) (old ws : List Z) (at i : ℕ) (x : T) (v : Z) → i < length xs → at + i < length old → x ≡ get_or xs i x → v ≡ h (f x) → ws ≡ take at old ++ (map h (map f (take i xs)) ++ drop (at + i) old)
    → set ws (at + i) v ≡ take at old ++ (map h (map f (take (i + 1) xs)) ++ drop (at + (i + 1)) old)
written_more h f xs old ws at i x v lx lo ex ev inv =
    let part = map h (map f (take i xs)) in
    let front = take at old ++ part in
    let p : length part ≡ i = length-map (map f (take i xs)) h ∙ length-map (take i xs) f ∙ length-take-le i xs (omega arith) in
    let n : length front ≡ at + i = length-append (take at old) part ∙ ap₂ (λ a b. a + b) (length-take-le at old (omega arith)) p in
    let s : at + i + 1 ≡ at + (i + 1) = omega arith in
    let w : ws ≡ front ++ (get_or old (at + i) v ∷ drop (at + i + 1) old) = inv ∙ sym (append_assoc (take at old) part (drop (at + i) old)) ∙ ap (λ zs. front ++ zs) (drop_more old (at + i) v lo) in
    let a : map h (map f (take (i + 1) xs)) ≡ part ++ v ∷ [] =
    ap (map h) (map_more f xs i x lx) ∙ map_push h (map f (take i xs)) (f (get_or xs i x)) ∙ ap (λ z. part ++ z ∷ []) (sym (ev ∙ ap (λ z. h (f z)) ex)) in
    ap (λ zs. set zs (at + i) v) w ∙ set_at front (get_or old (at + i) v) (drop (at + i + 1) old) v (at + i) n
    ∙ append_assoc (take at old) part (v ∷ drop (at + i + 1) old)
    ∙ ap (λ zs. take at old ++ zs) (sym (append_assoc part (v ∷ []) (drop (at + i + 1) old)) ∙ ap₂ (λ y k. y ++ drop k old) (sym a) s)
