-- How columns and rows lie in memory. Assumes nothing.
use Rattle.std.specs.Prelude.{◌≡◌, ℕ, Bool, true, false, cond, List, [], ◌∷◌, map, ℤ, pos, negsuc, count_by, ◌==◌, nat_lt}
use Rattle.std.specs.List.{range_with_len, flat_map, list_all}
use Rattle.sheet.specs.declared.node.Node.{Node}
use Rattle.sheet.specs.Nodes.{is_belt}
use Rattle.terms.specs.declared.term.Term.{Term}
use Rattle.terms.specs.Forms.{Form, norm}
use Rattle.terms.specs.Records.{form_in}
use Rattle.flows.specs.Columns.{merged}
use Rattle.flows.specs.Flows.{flow_by, ports_of}

-- the sets of a form's terms
abbrev pub sets_of : Form → List ℕ
sets_of p = map (λ t. t.0) p

-- every coefficient is above zero
abbrev pub is_above : ℤ → Bool
is_above (pos n) = nat_lt 0 n
is_above (negsuc n) = false

abbrev pub Above : Form → Type 0
Above p = list_all (λ t. is_above t.1) p ≡ true

-- the columns that records list, and how often their terms were found together
abbrev pub columns_in : List Term → List ℕ
columns_in ts = sets_of (form_in ts)

abbrev pub findings : List Term → ℕ
findings ts = norm (form_in ts)

-- every term was found
abbrev pub Found : List Term → Type 0
Found ts = Above (form_in ts)

-- the coefficient of a rising form at a column that none of its terms is below, and what is left of the form above it
abbrev pub leading : ℕ → Form → ℤ
leading c [] = pos 0
leading c (t ∷ p) = cond (t.0 == c) t.1 (pos 0)

abbrev pub after : ℕ → Form → Form
after c [] = []
after c (t ∷ p) = cond (t.0 == c) p (t ∷ p)

-- the flows of the belts, from the forms of all lines
abbrev pub flows_by : List Node → List Form → List Form
flows_by ns fs = map (λ b. flow_by fs (ports_of ns b)) (range_with_len 0 (count_by is_belt ns))

-- the rows of some flows over columns, one after another
abbrev pub rows_over : List ℕ → List Form → List ℤ
rows_over cs flows = flat_map (merged cs) flows
