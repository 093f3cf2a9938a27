-- The printed list of a text's balances in whole numbers, or the first refusal on the way. Assumes nothing.
use Rattle.std.specs.Prelude.{ℕ, List, length, Ok, Err, is_ok, count_by, Result, nat_lt}
use Rattle.std.specs.List.{flat_map}
use Rattle.sheet.specs.declared.node.Node.{Node}
use Rattle.sheet.specs.declared.fault.Fault.{Fault}
use Rattle.sheet.specs.declared.fault.Refusal.TheVariants.{ShortText}
use Rattle.sheet.specs.Loading.{loaded}
use Rattle.sheet.specs.Nodes.{is_belt}
use Rattle.sheet.specs.Outcomes.{Outcome, written}
use Rattle.sheet.specs.Refusals.{and_then, refuse_if}
use Rattle.kinds.specs.Kinds.{wholes}
use Rattle.flows.specs.Derivation.{derived}
use Rattle.listing.specs.declared.answer.Answer.{Answer}
use Rattle.printing.specs.Printing.{list_text, refusal_text, in_text}

-- the list of a sheet's balances, as it is printed
abbrev pub list_of_nodes : List Node → Result (List ℕ) Fault
list_of_nodes ns = and_then (derived wholes ns) (λ bs. Ok (list_text (count_by is_belt ns) (length bs) (flat_map (λ w. w) bs)))

-- the same of a sheet's text
abbrev pub list_of : List ℕ → Result (List ℕ) Fault
list_of text = and_then (loaded text) list_of_nodes

-- the list of a text's balances, into list memory
abbrev pub list_balances : List ℕ → List ℕ → Outcome ℕ ℕ
list_balances text memory = in_text (list_of text) memory

-- a list, or the line of the refusal that stands in its place
abbrev pub list_or_line : Result (List ℕ) Fault → List ℕ
list_or_line (Ok list) = list
list_or_line (Err f) = refusal_text f

-- the bytes that answer a text
abbrev pub answer_bytes : List ℕ → List ℕ
answer_bytes text = list_or_line (list_of text)

-- the answer to a text, onto a page: whether it is accepted, and how many bytes; refused if the page is shorter
abbrev pub answer_text : List ℕ → List ℕ → Outcome Answer ℕ
answer_text text page =
    written (λ bytes. record { accepted = is_ok (list_of text); length = length bytes }) (λ bytes. bytes)
    (refuse_if (nat_lt (length page) (length (answer_bytes text))) ShortText 0 (Ok (answer_bytes text))) page
