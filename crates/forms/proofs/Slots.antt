-- Slots as the forms that they hold, and the forms of gates worked out from them.
use Rattle.std.proofs.Common.{◌≡◌, ℕ, ◌^◌, ◌≤◌, Bool, true, false, List, [], ◌∷◌, length, set, pos, nat_abs, Some, None, Option, unwrap_or, sym, refl, ap, ◌∙◌, subst, mul-le-mul_right, mul-le-mul, arith, length-set, MatchOption}
use Rattle.std.proofs.lemmas.List.{take_more_set, drop-set-lt}
use Rattle.std.proofs.lemmas.Bool.{and_from, or_parts, le-leb, lt-ltb, ltb-false, both_ways}
use Rattle.terms.specs.declared.term.Term.{Term}
use Rattle.terms.specs.Forms.{Form, one_form, norm}
use Rattle.terms.specs.Records.{entry_of, form_in, light, gate_fits, product_room, sum_room, WorkedOut}
use Rattle.terms.specs.Editing.{InFront}
use Rattle.terms.proofs.Norms.{Small, small_norm}
use Rattle.terms.proofs.Recorded.{length_form_in, onward, holding, in_front}
use Rattle.forms.specs.Gates.{large}

pub product_room_lem : (one other : List Term) → length one ≤ 24 → length other ≤ 24 → product_room one other ≤ 624
product_room_lem one other h k = omega (arith, mul-le-mul h k)

pub sum_room_lem : (one other : List Term) → length one ≤ 24 → length other ≤ 24 → sum_room one other ≤ 624
sum_room_lem one other h k = omega (arith, mul-le-mul h k)

-- what a gate's call gives where its operands are small and the working records are many
pub worked_out : (form : Form → Form → Form) (gate : Bool → Bool → Bool) (one other before after : List Term) (room : ℕ) (p : Form) (r : Option ℕ) → WorkedOut room form gate one other before after r → room ≤ 624 → 624 ≤ length before → light one ≡ true → light other ≡ true → form (form_in one) (form_in other) ≡ p → MatchOption r ⊥ (λ n. InFront 624 p before after n)
worked_out form gate one other before after room p None w h l f g e =
    both_ways (gate_fits room before one other) w.0 (and_from _ _ (le-leb room (length before) (omega arith)) (and_from _ _ f g))
worked_out form gate one other before after room p (Some n) w h l f g e = onward room 624 n _ p before after before (in_front room n _ before after w.1.0) e h refl

-- constant 1 in the first record
pub one_held : (W : List Term) (t : Term) → 624 ≤ length W → entry_of t ≡ (0, pos 1) → InFront 624 one_form W (set W 0 t) 1
one_held W t h e =
    holding 624 1 one_form W (set W 0 t) (omega (arith, length-set W 0 t)) (omega arith)
    (ap form_in (take_more_set W 0 t (omega arith)) ∙ ap (λ x. x ∷ []) e) (drop-set-lt 624 W 0 t (omega arith))

-- an answer that is never absent
pub surely : (p : Form) (before after : List Term) (r : Option ℕ) (n : ℕ) → MatchOption r ⊥ (λ m. InFront 624 p before after m) → n ≡ unwrap_or r 0 → InFront 624 p before after n
surely p before after None n c e = absurd c
surely p before after (Some m) n c e = subst (λ k. InFront 624 p before after k) (sym e) c

-- a form within the limits is light: at most 24 coefficients of at most 8,388,608 each
pub light_held : (ts : List Term) → length ts ≤ 24 → large (form_in ts) ≡ false → light ts ≡ true
light_held ts h e =
    let small = small_norm 8388608 (form_in ts) (all_small (form_in ts) e) in
    lt-ltb (norm (form_in ts)) (2 ^ 30) (omega (arith, small, length_form_in ts, mul-le-mul_right 8388608 h))
  where
    all_small : (p : Form) → large p ≡ false → Small 8388608 p
    all_small [] e = tt
    all_small (t ∷ p) e = let q = or_parts _ _ e in (ltb-false 8388608 (nat_abs t.1) q.0, all_small p q.1)
