-- What the calls about wires answer and write.
use Rattle.std.specs.Prelude.{ℕ, Bool, not, ◌&&◌, List, [], map, length, Ok, Result, nat_lt, slice_index_or}
use Rattle.sheet.specs.declared.node.Node.{Node}
use Rattle.sheet.specs.declared.fault.Fault.{Fault}
use Rattle.sheet.specs.declared.fault.Refusal.TheVariants.{NoWire, ShortRecords}
use Rattle.sheet.specs.Refusals.{and_then, refuse_if}
pub use Rattle.sheet.specs.Outcomes.{Outcome, written}
use Rattle.sheet.specs.Nodes.{wire_at}
use Rattle.terms.specs.declared.term.Term.{Term}
use Rattle.terms.specs.Forms.{Form, same}
use Rattle.terms.specs.Records.{term_of}
use Rattle.forms.specs.Gates.{forms_of, limits}

-- a wire's form: the number names a wire, and every gate's form is within the limits
abbrev pub form_of : List Node → ℕ → Result Form Fault
form_of ns w = refuse_if (not (wire_at ns w)) NoWire 0 (and_then (limits ns) (λ _. Ok (slice_index_or (forms_of ns) w [])))

-- the term call: a wire's form into term records, and how many
abbrev pub terms : List Node → ℕ → List Term → Outcome ℕ Term
terms ns w records = written length (map term_of) (and_then (form_of ns w) (λ p. refuse_if (nat_lt (length records) (length p)) ShortRecords 0 (Ok p))) records

-- whether two wires have the same form, where both are given
abbrev pub same_form : List Node → ℕ → ℕ → Result Bool Fault
same_form ns v w = refuse_if (not (wire_at ns v && wire_at ns w)) NoWire 0 (and_then (limits ns) (λ _. Ok (same (slice_index_or (forms_of ns) v []) (slice_index_or (forms_of ns) w []))))
