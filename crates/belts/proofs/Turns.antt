-- What a put and a take do to a turned list. Assumes nothing.
use Rattle.std.proofs.Common.{◌≡◌, ℕ, suc, ◌+◌, ◌-◌, ◌<◌, ◌≤◌, Bool, true, false, eqb, ltb, List, [], ◌∷◌, ◌++◌, length, get_or, take, drop, set, sym, refl, ap, ◌∙◌, ⊎_elim, arith}
use lib.Seq.{take-set-lt}
use Rattle.std.proofs.lemmas.List.{nil_from_length, append-nil, append_assoc, length-take, length-drop, length-append, length-take-le, get_or-take, drop_more, take_more, take_more_set, take_all, drop_all, take-append-le, take-set-le, drop-set-lt, drop-set-add, set-append_left, set-append_right}
use Rattle.std.proofs.lemmas.Bool.{cases_lt, cases_Bool, cases_eq}
use Rattle.std.proofs.lemmas.Bool.Decides.{nat_tests}
use Rattle.std.specs.Bool.{then_some}
use Rattle.belts.specs.Layouts.{after, filled, turned, ring_words, ring_of}
use Rattle.belts.specs.Belts.{counted, roomy, head_of, first}
use Rattle.belts.specs.declared.ring.Ring.{Ring}

pub length_turned : (l : ℕ) (xs : List ℕ) → l ≤ length xs → length (turned l xs) ≡ length xs
length_turned l xs h = simp (length-append, length-drop, length-take) (omega arith)

pub filled_le : (p e l : ℕ) (full : Bool) → e < p → l < p → filled p e l full ≤ p
filled_le p e l true a b = omega arith
filled_le p e l false a b = grind (arith, nat_tests)

pub filled_less : (p e l : ℕ) → e < p → l < p → filled p e l false < p
filled_less p e l a b = grind (arith, nat_tests)

pub filled_put : (p e l : ℕ) → e < p → l < p → filled p (after p e) l (eqb (after p e) l) ≡ filled p e l false + 1
filled_put p e l a b = grind (arith, nat_tests)

pub filled_take : (p e l : ℕ) (full : Bool) → e < p → l < p → (full ≡ true → e ≡ l) → 0 < filled p e l full → filled p e (after p l) false + 1 ≡ filled p e l full
filled_take p e l true a b m h = let q = m refl in grind (arith, nat_tests)
filled_take p e l false a b m h = grind (arith, nat_tests)

turned_set_up : (l e w : ℕ) (xs : List ℕ) → l ≤ e → e < length xs → turned l (set xs e w) ≡ set (turned l xs) (e - l) w
turned_set_up l e w xs le ein =
    let k : l + (e - l) ≡ e = omega arith in
    let d : drop l (set xs e w) ≡ set (drop l xs) (e - l) w = rw k at (drop-set-add l xs (e - l) w) in
    let t = take-set-le l xs e w le in
    let h : e - l < length (drop l xs) = simp length-drop (omega arith) in
    let s = set-append_left (drop l xs) (take l xs) (e - l) w h in
    cc

turned_set_round : (l e w : ℕ) (xs : List ℕ) → e < l → l < length xs → turned l (set xs e w) ≡ set (turned l xs) (e + length xs - l) w
turned_set_round l e w xs lt lin =
    let d = drop-set-lt l xs e w lt in
    let t = take-set-lt l xs e w lt in
    let n = length-drop l xs in
    let h : length xs - l ≤ e + length xs - l = omega arith in
    let k : e + length xs - l - (length xs - l) ≡ e = omega arith in
    let s = rw k at (set-append_right (drop l xs) (take l xs) (length xs - l) (e + length xs - l) w n h) in
    cc

turned_set : (l e w : ℕ) (xs : List ℕ) → l < length xs → e < length xs → turned l (set xs e w) ≡ set (turned l xs) (filled (length xs) e l false) w
turned_set l e w xs lin ein =
    ⊎_elim
    (λ lt. let f : filled (length xs) e l false ≡ e + length xs - l = grind (arith, nat_tests) in let t = turned_set_round l e w xs lt lin in cc)
    (λ le. let f : filled (length xs) e l false ≡ e - l = grind (arith, nat_tests) in let t = turned_set_up l e w xs le ein in cc)
    (cases_lt e l)

turned_step : (l : ℕ) (xs : List ℕ) (n : ℕ) → l < length xs → n < length xs → take (suc n) (turned l xs) ≡ get_or xs l 0 ∷ take n (turned (l + 1) xs)
turned_step l xs n lin nin =
    let d = drop_more xs l 0 lin in
    let t = take_more xs l 0 lin in
    let a = append_assoc (drop (l + 1) xs) (take l xs) (get_or xs l 0 ∷ []) in
    let h : n ≤ length (drop (l + 1) xs ++ take l xs) = simp (length-append, length-drop, length-take) (omega arith) in
    let p = take-append-le n (drop (l + 1) xs ++ take l xs) (get_or xs l 0 ∷ []) h in
    let q : take n (turned (l + 1) xs) ≡ take n (drop (l + 1) xs ++ take l xs) = cc in
    let z : take (suc n) (turned l xs) ≡ take (suc n) ((get_or xs l 0 ∷ drop (l + 1) xs) ++ take l xs) = cc in
    z ∙ ap (λ ys. get_or xs l 0 ∷ ys) (sym q)

turned_end : (xs : List ℕ) → turned (length xs) xs ≡ turned 0 xs
turned_end xs = let d = drop_all (length xs) xs (omega arith) in let t = take_all (length xs) xs (omega arith) in rw (d, t) (sym (append-nil xs))

turned_more : (l : ℕ) (xs : List ℕ) (n : ℕ) → l < length xs → n < length xs → take (suc n) (turned l xs) ≡ get_or xs l 0 ∷ take n (turned (after (length xs) l) xs)
turned_more l xs n lin nin =
    let s = turned_step l xs n lin nin in
    ⊎_elim
    (λ e. let f : after (length xs) l ≡ 0 = grind (arith, nat_tests) in let t = turned_end xs in cc)
    (λ e. let f : after (length xs) l ≡ l + 1 = grind (arith, nat_tests) in cc)
    (cases_eq (l + 1) (length xs))

-- the ring's own facts: p places of enough cells
module _ (cells : List ℕ) (p e l : ℕ) (fit : p ≤ length cells) (ein : e < p) (lin : l < p) where
  pub length_ring : (full : Bool) → length (ring_words cells p e l full) ≡ filled p e l full
  length_ring full =
      let a = length-take-le p cells fit in
      let t = length_turned l (take p cells) (omega arith) in
      let f = filled_le p e l full ein lin in
      length-take-le (filled p e l full) (turned l (take p cells)) (omega arith)

  pub ring_put : (w : ℕ) → ring_words (set cells e w) p (after p e) l (eqb (after p e) l) ≡ ring_words cells p e l false ++ (w ∷ [])
  ring_put w =
      let a = length-take-le p cells fit in
      let f = filled_put p e l ein lin in
      let g = filled_less p e l ein lin in
      let s = take-set-lt p cells e w ein in
      let u = rw a at (turned_set l e w (take p cells) (omega arith) (omega arith)) in
      let t = length_turned l (take p cells) (omega arith) in
      let m = take_more_set (turned l (take p cells)) (filled p e l false) w (omega arith) in
      cc

  pub ring_take : (full : Bool) → (full ≡ true → e ≡ l) → 0 < filled p e l full → ring_words cells p e l full ≡ get_or cells l 0 ∷ ring_words cells p e (after p l) false
  ring_take full m h =
      let a = length-take-le p cells fit in
      let f = filled_take p e l full ein lin m h in
      let k : filled p e l full ≡ suc (filled p e (after p l) false) = omega arith in
      let b = filled_le p e l full ein lin in
      let t = rw a at (turned_more l (take p cells) (filled p e (after p l) false) (omega arith) (omega arith)) in
      let g = get_or-take p cells l 0 lin in
      cc

-- the same of a ring, by the facts in its type
module _ (r : Ring) where
  pub ring_counted : counted (ring_of r) ≡ filled r.places r.enter r.leave r.full
  ring_counted =
      let f = filled_le r.places r.enter r.leave r.full r.enters r.leaves in
      let n = length_ring r.cells r.places r.enter r.leave (omega arith) r.enters r.leaves r.full in
      omega arith

  pub ring_open : roomy (ring_of r) ≡ true → r.full ≡ false
  ring_open room = ⊎_elim (λ e. let n = ring_counted in grind (arith, nat_tests)) (λ e. e) (cases_Bool r.full)

  pub ring_append : (w : ℕ) → roomy (ring_of r) ≡ true → ring_words (set r.cells r.enter w) r.places (after r.places r.enter) r.leave (eqb (after r.places r.enter) r.leave) ≡ (ring_of r).words ++ (w ∷ [])
  ring_append w room =
      rw (ring_open room) (ring_put r.cells r.places r.enter r.leave (omega arith) r.enters r.leaves w)

  pub ring_oldest : 0 < counted (ring_of r) → (ring_of r).words ≡ get_or r.cells r.leave 0 ∷ ring_words r.cells r.places r.enter (after r.places r.leave) false
  ring_oldest some =
      let n = ring_counted in
      ring_take r.cells r.places r.enter r.leave (omega arith) r.enters r.leaves r.full r.meets (omega arith)

  pub ring_head : then_some (ltb 0 (counted (ring_of r))) (get_or r.cells r.leave 0) ≡ head_of (ring_of r)
  ring_head = ⊎_elim full none (cases_Bool (ltb 0 (counted (ring_of r))))
    where
      full : ltb 0 (counted (ring_of r)) ≡ true → then_some (ltb 0 (counted (ring_of r))) (get_or r.cells r.leave 0) ≡ head_of (ring_of r)
      full e = let n : 0 < counted (ring_of r) = grind (arith, nat_tests) in rw e (sym (ap first (ring_oldest n)))

      none : ltb 0 (counted (ring_of r)) ≡ false → then_some (ltb 0 (counted (ring_of r))) (get_or r.cells r.leave 0) ≡ head_of (ring_of r)
      none e = let n : length (ring_of r).words ≡ 0 = grind (arith, nat_tests) in rw e (sym (ap first (nil_from_length (ring_of r).words n)))
