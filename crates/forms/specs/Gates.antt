-- The form of every line of a sheet, and the limits on the forms of its gates.
use Rattle.std.specs.Prelude.{ℕ, ◌+◌, ◌^◌, Bool, cond, List, [], ◌∷◌, ◌++◌, length, pos, Ok, Result, nat_lt, slice_index_or, unsigned_abs}
use Rattle.std.specs.List.{list_any}
use Rattle.sheet.specs.declared.node.Node.{Node}
use Rattle.sheet.specs.declared.node.Node.TheVariants.{Free, Belt, Gate}
use Rattle.sheet.specs.declared.node.Gate.{Gate as Logic}
use Rattle.sheet.specs.declared.node.Gate.TheVariants.{Constant, Not, And, Or, Xor}
use Rattle.sheet.specs.declared.fault.Fault.{Fault}
use Rattle.sheet.specs.declared.fault.Refusal.TheVariants.{LongForm, LongForms, LargeCoefficient}
use Rattle.sheet.specs.Refusals.{and_then, refuse_if}
use Rattle.sheet.specs.Nodes.{is_free}
use Rattle.sheet.specs.Wires.{bit}
use Rattle.terms.specs.Forms.{Form, one_form, not_form, and_form, or_form, xor_form}

-- the form of a gate, from the forms of the lines before it
abbrev pub gate_form : List Form → Logic → Form
gate_form fs (Constant v) = cond v one_form []
gate_form fs (Not w) = not_form (slice_index_or fs w [])
gate_form fs (And l r) = and_form (slice_index_or fs l []) (slice_index_or fs r [])
gate_form fs (Or l r) = or_form (slice_index_or fs l []) (slice_index_or fs r [])
gate_form fs (Xor l r) = xor_form (slice_index_or fs l []) (slice_index_or fs r [])

-- the form at one line, where k free wires came before: a free wire is once its own term; a belt, no wire, has none
abbrev pub node_form : ℕ → List Form → Node → Form
node_form k fs (Free s) = (2 ^ k, pos 1) ∷ []
node_form k fs (Belt o t) = []
node_form k fs (Gate g) = gate_form fs g

-- the forms of the lines, after the forms fs
abbrev pub forms_from : ℕ → List Form → List Node → List Form
forms_from k fs [] = fs
forms_from k fs (n ∷ ns) = forms_from (k + bit (is_free n)) (fs ++ node_form k fs n ∷ []) ns

-- the form of every line
unfoldable pub forms_of : List Node → List Form
forms_of ns = forms_from 0 [] ns

-- a coefficient passes 8,388,608 either way
abbrev pub large : Form → Bool
large = list_any (λ t. nat_lt 8388608 (unsigned_abs t.1))

-- the terms of the gates' forms together, with the form of this line, or the limit that it passes
abbrev pub together : ℕ → ℕ → Node → Form → Result ℕ Fault
together sofar line (Free s) p = Ok sofar
together sofar line (Belt o t) p = Ok sofar
together sofar line (Gate g) p =
    refuse_if (nat_lt 24 (length p)) LongForm line
    (refuse_if (nat_lt 2048 (sofar + length p)) LongForms line
    (refuse_if (large p) LargeCoefficient line (Ok (sofar + length p))))

-- the limits, line by line after the forms fs: how many terms the gates' forms have together, or the first refusal
abbrev pub limits_from : ℕ → ℕ → List Form → List Node → Result ℕ Fault
limits_from sofar k fs [] = Ok sofar
limits_from sofar k fs (n ∷ ns) =
    and_then (together sofar (length fs) n (node_form k fs n)) (λ more. limits_from more (k + bit (is_free n)) (fs ++ node_form k fs n ∷ []) ns)

unfoldable pub limits : List Node → Result ℕ Fault
limits ns = limits_from 0 0 [] ns
