-- A list written over the front of another; a record taken into the first of some, and one taken out of them, by copies within the list.
use Rattle.std.proofs.Common.{◌≡◌, ℕ, zero, suc, ◌+◌, ◌-◌, ◌<◌, ◌≤◌, List, [], ◌∷◌, ◌++◌, length, get_or, take, drop, set, sym, refl, ap, ◌∙◌, add-one, arith}
use Rattle.std.proofs.Math.Seq.{take-append-add, drop-append-add}
use Rattle.std.specs.List.{insert, remove, copy_within}
use Rattle.std.proofs.lemmas.List.Edits.{length-insert, length-remove}
use Rattle.std.proofs.lemmas.List.{append_assoc, length-take-le, take_more, drop-drop, drop_at, set_at}

-- a list X written over the front of a list W
abbrev pub over : {A : Type 0} → List A → List A → ℕ → List A
over W X k = take k X ++ drop k W

module _ {A : Type 0} where
  over_suc : (W X : List A) (k : ℕ) (z : A) → k < length W → k < length X → set (over W X k) k (get_or X k z) ≡ over W X (suc k)
  over_suc [] X k z h l = absurd (omega arith)
  over_suc (w ∷ W) [] k z h l = absurd (omega arith)
  over_suc (w ∷ W) (x ∷ X) zero z h l = refl
  over_suc (w ∷ W) (x ∷ X) (suc k) z h l = ap (λ (y : List A). x ∷ y) (over_suc W X k z (omega arith) (omega arith))

  pub over_more : (W X : List A) (k : ℕ) (z : A) → k < length W → k < length X → set (over W X k) k (get_or X k z) ≡ over W X (k + 1)
  over_more W X k z h l = over_suc W X k z h l ∙ ap (over W X) (sym (add-one k))

  take_past : (a b : List A) (n k : ℕ) → length a + k ≡ n → take n (a ++ b) ≡ a ++ take k b
  take_past a b n k e = ap (λ m. take m (a ++ b)) (sym e) ∙ take-append-add a b k

  drop_past : (a b : List A) (n k : ℕ) → length a + k ≡ n → drop n (a ++ b) ≡ drop k b
  drop_past a b n k e = ap (λ m. drop m (a ++ b)) (sym e) ∙ drop-append-add a b k

  -- the records from place i on move up by one, and t is put there
  pub opened_is : (W : List A) (n i : ℕ) (t : A) → n < length W → i ≤ n → set (copy_within W i n (i + 1)) i t ≡ take (n + 1) (insert W i t) ++ drop (n + 1) W
  opened_is W n i t h l =
      let a = take i W in
      let w = get_or W i t in
      let D = take (n - i) (drop i W) in
      let R = drop (i + 1 + (n - i)) W in
      let size : length a ≡ i = length-take-le i W (omega arith) in
      let end : i + 1 + (n - i) ≡ n + 1 = omega arith in
      let moved : copy_within W i n (i + 1) ≡ a ++ (w ∷ (D ++ R)) =
      ap (λ z. (z ++ D) ++ R) (take_more W i t (omega arith)) ∙ ap (λ z. z ++ R) (append_assoc a (w ∷ []) D) ∙ append_assoc a (w ∷ D) R in
      ap (λ z. set z i t) moved ∙ set_at a w (D ++ R) t i size ∙ ap (λ k. a ++ (t ∷ (D ++ drop k W))) end
      ∙ sym (ap (λ z. z ++ drop (n + 1) W) (take_past a (t ∷ drop i W) (n + 1) (suc (n - i)) (omega arith)) ∙ append_assoc a (t ∷ D) (drop (n + 1) W))

  -- those above place i move down by one
  pub closed_is : (W : List A) (n i : ℕ) → n ≤ length W → i < n → copy_within W (i + 1) n i ≡ take (n - 1) (remove W i) ++ drop (n - 1) W
  closed_is W n i h l =
      let a = take i W in
      let size : length a ≡ i = length-take-le i W (omega arith) in
      let end : i + (n - (i + 1)) ≡ n - 1 = omega arith in
      ap (λ k. (a ++ take (n - (i + 1)) (drop k W)) ++ drop (i + (n - (i + 1))) W) (add-one i)
      ∙ ap (λ k. (a ++ take (n - (i + 1)) (drop (suc i) W)) ++ drop k W) end
      ∙ ap (λ z. z ++ drop (n - 1) W) (sym (take_past a (drop (suc i) W) (n - 1) (n - (i + 1)) (omega arith)))

  -- what stays from a place on
  pub opened_rest : (W : List A) (n i : ℕ) (t : A) → n < length W → i ≤ n → drop (n + 1) (take (n + 1) (insert W i t) ++ drop (n + 1) W) ≡ drop (n + 1) W
  opened_rest W n i t h l =
      drop_at (take (n + 1) (insert W i t)) (drop (n + 1) W) (n + 1) (length-take-le (n + 1) (insert W i t) (omega (arith, length-insert W i t (omega arith))))

  pub closed_rest : (W : List A) (n i : ℕ) → n < length W → i < n → drop (n + 1) (take (n - 1) (remove W i) ++ drop (n - 1) W) ≡ drop (n + 1) W
  closed_rest W n i h l =
      let size = length-take-le (n - 1) (remove W i) (omega (arith, length-remove W i (omega arith))) in
      let end : n - 1 + 2 ≡ n + 1 = omega arith in
      drop_past (take (n - 1) (remove W i)) (drop (n - 1) W) (n + 1) 2 (omega arith) ∙ drop-drop 2 (n - 1) W ∙ ap (λ k. drop k W) end
