-- The slots filled so far.
use Rattle.std.proofs.Common.{◌≡◌, ℕ, ◌+◌, ◌<◌, ◌≤◌, Bool, true, false, cond, List, [], ◌∷◌, ◌++◌, length, get_or, take, drop, set, Ok, count_by, Result, sym, refl, ap, ◌∙◌, arith}
use Rattle.std.proofs.lemmas.List.{at_drop_more, take_more_set, map_push, length-take-le, length-map}
use Rattle.std.proofs.lemmas.List.Sums.{count_by_more_yes, count_by_more_no, sum_by-take-le}
use Rattle.sheet.specs.declared.node.Node.{Node}
use Rattle.sheet.specs.declared.node.Node.TheVariants.{Free}
use Rattle.sheet.specs.declared.node.Source.TheVariants.{Sensor}
use Rattle.sheet.specs.declared.fault.Fault.{Fault}
use Rattle.sheet.specs.Refusals.{and_then}
use Rattle.sheet.specs.Nodes.{is_free}
use Rattle.sheet.specs.Wires.{bit}
use Rattle.terms.specs.Forms.{Form}
use Rattle.forms.specs.declared.slot.Slot.{Slot}
use Rattle.forms.specs.Gates.{node_form, together, forms_from, limits_from, forms_of, limits}
use Rattle.forms.specs.Slots.{slot_form, slot_forms}

pub record Filled (ns : List Node) (ss : List Slot) (i free sofar : ℕ) : Type 0 where
  pub counted : free ≡ count_by is_free (take i ns)
  pub forms : forms_of ns ≡ forms_from free (slot_forms (take i ss)) (drop i ns)
  pub limits_left : limits ns ≡ limits_from sofar free (slot_forms (take i ss)) (drop i ns)

pub none_filled : (ns : List Node) (ss : List Slot) → Filled ns ss 0 0 0
unfolding forms_of limits
none_filled ns ss = record { counted = refl; forms = refl; limits_left = refl }

-- one line more, as the code reads it
module _ (ns : List Node) (ss : List Slot) (i free sofar : ℕ) (h : i < length ns) (l : i < length ss) (known : Filled ns ss i free sofar) where
  abbrev node : Node
  node = get_or ns i (Free Sensor)

  -- the forms before
  abbrev before : List Form
  before = slot_forms (take i ss)

  pub wires_left : count_by is_free ns ≤ 128 → is_free node ≡ true → free < 128
  wires_left few e = omega (arith, known.counted, count_by_more_yes is_free ns i (Free Sensor) h e, sum_by-take-le (λ n. cond (is_free n) 1 0) ns (i + 1))

  pub place_few : length (take i ss) ≡ i
  place_few = length-take-le i ss (omega arith)

  -- what the limits say of this line
  module _ (r : Result ℕ Fault) (e : together sofar (length (take i ss)) node (node_form free (slot_forms (take i ss)) node) ≡ r) where
    here : together sofar (length before) node (node_form free before node) ≡ r
    here = ap (λ k. together sofar k node (node_form free before node)) (length-map (take i ss) slot_form) ∙ e

    pub limits_here : limits ns ≡ and_then r (λ more. limits_from more (free + bit (is_free node)) (before ++ node_form free before node ∷ []) (drop (i + 1) ns))
    limits_here =
        known.limits_left ∙ at_drop_more (limits_from sofar free before) ns i (Free Sensor) h
        ∙ ap (λ t. and_then t (λ more. limits_from more (free + bit (is_free node)) (before ++ node_form free before node ∷ []) (drop (i + 1) ns))) here

  module _ (s : Slot) (more next : ℕ) (f : slot_form s ≡ node_form free (slot_forms (take i ss)) node) (e : together sofar (length (take i ss)) node (node_form free (slot_forms (take i ss)) node) ≡ Ok more) (g : next ≡ free + bit (is_free node)) where
    after : slot_forms (take (i + 1) (set ss i s)) ≡ before ++ node_form free before node ∷ []
    after =
        ap slot_forms (take_more_set ss i s l) ∙ map_push slot_form (take i ss) s
        ∙ ap (λ p. before ++ p ∷ []) f

    pub filled_on : Filled ns (set ss i s) (i + 1) next more
    filled_on =
        record {
          counted = rw g (count_on (is_free node) refl);
          forms = rw (after, g) (known.forms ∙ at_drop_more (forms_from free before) ns i (Free Sensor) h);
          limits_left = rw (after, g) (limits_here (Ok more) e);
        }
      where
        count_on : (b : Bool) → is_free node ≡ b → free + bit (is_free node) ≡ count_by is_free (take (i + 1) ns)
        count_on true t = rw t (ap (λ m. m + 1) known.counted ∙ sym (count_by_more_yes is_free ns i (Free Sensor) h t))
        count_on false t = rw t (omega (arith, known.counted, count_by_more_no is_free ns i (Free Sensor) h t))
