-- The kept row that the code reads is the one that is found.
use Rattle.std.proofs.Common.{◌≡◌, ℕ, zero, suc, ◌+◌, ◌*◌, ◌<◌, ◌≤◌, Bool, true, false, cond, eqb, List, [], ◌∷◌, map, length, get_or, take, drop, Some, None, sym, refl, ap, ◌∙◌, mul-le-mul_right, suc-mul, zero-mul, arith, eq-eqb, ne_eqb}
use Rattle.std.proofs.lemmas.List.{drop-drop, get_or-map, take-map, drop-map}
use Rattle.kinds.specs.Kinds.{Kind}
use Rattle.kinds.specs.Elimination.{kept_under, at}
use Rattle.elimination.specs.Memory.{kept_of}

pub at_read : (K : Kind) {T : Type 0} (value : T → K.Num) (xs : List T) (t : ℕ) (x : T) → t < length xs → x ≡ get_or xs t x → value x ≡ at K (map value xs) t
at_read K value xs t x lt e = ap value e ∙ sym (get_or-map value xs t x K.zero lt)

-- a number in memory that is tested for zero
pub tested : (K : Kind) {T : Type 0} (value : T → K.Num) (xs : List T) (t : ℕ) (x : T) (b : Bool) → t < length xs → x ≡ get_or xs t x → b ≡ K.is_zero (value x) → K.is_zero (at K (map value xs) t) ≡ b
tested K value xs t x b lt e h = ap K.is_zero (sym (at_read K value xs t x lt e)) ∙ sym h

module _ {A : Type 0} (size j : ℕ) where
  pub found_none : (ts : List ℕ) (rows : List A) → ((i : ℕ) → i < length ts → get_or ts i 0 ≡ j → ⊥) → kept_under (kept_of size ts rows) j ≡ None
  found_none [] rows h = refl
  found_none (x ∷ ts) rows h =
      let n : eqb x j ≡ false = ne_eqb x j (h 0 (omega arith)) in
      ap (λ b. cond b (Some (take size rows)) (kept_under (kept_of size ts (drop size rows)) j)) n ∙ found_none ts (drop size rows) (λ i lt. h (suc i) (omega arith))

  found_some : (ts : List ℕ) (rows : List A) (i : ℕ) → i < length ts → get_or ts i 0 ≡ j → ((k : ℕ) → k < i → get_or ts k 0 ≡ j → ⊥) → kept_under (kept_of size ts rows) j ≡ Some (take size (drop (i * size) rows))
  found_some [] rows i lt e h = absurd (omega arith)
  found_some (x ∷ ts) rows zero lt e h =
      let y : eqb x j ≡ true = eq-eqb x j e in
      ap (λ b. cond b (Some (take size rows)) (kept_under (kept_of size ts (drop size rows)) j)) y ∙ ap (λ n. Some (take size (drop n rows))) (sym (zero-mul size))
  found_some (x ∷ ts) rows (suc i) lt e h =
      let n : eqb x j ≡ false = ne_eqb x j (h 0 (omega arith)) in
      ap (λ b. cond b (Some (take size rows)) (kept_under (kept_of size ts (drop size rows)) j)) n
      ∙ found_some ts (drop size rows) i (omega arith) e (λ k lt. h (suc k) (omega arith))
      ∙ ap (λ zs. Some (take size zs)) (drop-drop (i * size) size rows)
      ∙ ap (λ n. Some (take size (drop n rows))) (omega (arith, suc-mul i size))

-- the kept row that the code reads is the one that is found
pub row_found : {N T : Type 0} (value : T → N) (size j : ℕ) (ts : List ℕ) (rows other : List T) (r : ℕ) → (r < length ts) × (get_or ts r 0 ≡ j) × ((k : ℕ) → k < r → get_or ts k 0 ≡ j → ⊥) → other ≡ take size (drop (r * size) rows) → kept_under (kept_of size ts (map value rows)) j ≡ Some (map value other)
row_found value size j ts rows other r f e =
    found_some size j ts (map value rows) r f.0 f.1 f.2
    ∙ ap Some (ap (take size) (drop-map value (r * size) rows) ∙ take-map value size (drop (r * size) rows) ∙ ap (map value) (sym e))

pub row_inside : (r n size : ℕ) → r < n → r * size + size ≤ n * size
row_inside r n size h = let m : suc r * size ≤ n * size = mul-le-mul_right size h in omega (arith, suc-mul r size)
