-- What a slot stands for.
use Rattle.std.specs.Prelude.{◌≡◌, ℕ, ◌+◌, List, map, take, Ok, Err, Result, MatchResult}
use Rattle.sheet.specs.declared.node.Node.{Node}
use Rattle.sheet.specs.declared.fault.Fault.{Fault}
use Rattle.terms.specs.Forms.{Form}
use Rattle.terms.specs.Records.{form_in}
use Rattle.forms.specs.declared.slot.Slot.{Slot}
use Rattle.sheet.specs.Nodes.{is_free}
use Rattle.sheet.specs.Wires.{bit}
use Rattle.forms.specs.declared.filling.Filling.{Filling}
use Rattle.forms.specs.declared.held.Forms.{Forms}
use Rattle.forms.specs.Gates.{together, forms_of, limits}

-- the form in a slot
abbrev pub slot_form : Slot → Form
slot_form s = form_in (take s.len s.terms)

-- the forms in some slots
abbrev pub slot_forms : List Slot → List Form
slot_forms ss = map slot_form ss

-- after line n with the form p, which comes behind `before`: its slot, and what stands before the next line; or the limit that it passes
abbrev pub Lined : Filling → ℕ → Node → Form → Filling → Result Slot Fault → Type 0
Lined before line n p after r =
    MatchResult r
    (λ s. (slot_form s ≡ p) × (together before.terms line n p ≡ Ok after.terms) × (after.free ≡ before.free + bit (is_free n)))
    (λ e. together before.terms line n p ≡ Err e)

-- the forms of a sheet's lines
abbrev pub forms_in : Forms → List Form
forms_in f = slot_forms (take f.len f.slots)

-- the gates' forms are within the limits, and these are the forms of all lines
pub record Allowed (ns : List Node) (fs : List Form) : Type 0 where
  pub forms : fs ≡ forms_of ns
  pub count : ℕ
  pub within : limits ns ≡ Ok count

-- the first limit that a gate's form passes
abbrev pub Refused : List Node → Fault → Type 0
Refused ns e = limits ns ≡ Err e
