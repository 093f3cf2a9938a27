-- The balances of a list of flows, those of a sheet's belts, and what derivation writes. Assumes nothing.
use Rattle.std.specs.Prelude.{ℕ, ◌*◌, List, map, length, ℤ, Ok, Err, count_by, Result, nat_lt}
use Rattle.std.specs.List.{flat_map}
use Rattle.sheet.specs.declared.node.Node.{Node}
use Rattle.sheet.specs.declared.fault.Fault.{Fault}
use Rattle.sheet.specs.declared.fault.Refusal.TheVariants.{ShortWeights, ManyColumns, LargeNumber}
use Rattle.sheet.specs.Nodes.{is_belt}
use Rattle.sheet.specs.Outcomes.{Outcome, written}
use Rattle.sheet.specs.Refusals.{fault, and_then, refuse_if}
use Rattle.terms.specs.Forms.{Form}
use Rattle.forms.specs.Gates.{limits}
use Rattle.kinds.specs.Kinds.{Kind}
use Rattle.kinds.specs.Elimination.{eliminate}
use Rattle.flows.specs.Flows.{flows_of}
use Rattle.flows.specs.Columns.{columns_of, table}

-- the balances as they are written, or the row that passes the limit
abbrev pub as_written : (K : Kind) → Result (List (List K.Num)) ℕ → Result (List (List ℤ)) Fault
as_written K (Ok ws) = Ok (map (map K.writes) ws)
as_written K (Err b) = Err (fault LargeNumber b)

-- the balances of a list of flows: at most 256 different terms, and then elimination
unfoldable pub balances_of : (K : Kind) → List Form → Result (List (List ℤ)) Fault
balances_of K flows =
    refuse_if (nat_lt 256 (length (columns_of flows))) ManyColumns 0
    (as_written K (eliminate K (length (columns_of flows)) (map (map K.counts) (table flows))))

-- the balances of a sheet's belts: the forms of its gates are within their limits, and then those of its flows
abbrev pub derived : Kind → List Node → Result (List (List ℤ)) Fault
derived K ns = and_then (limits ns) (λ _. balances_of K (flows_of ns))

-- derivation: the balances' weights, belt by belt, into weight memory, and how many balances
abbrev pub derive : Kind → List Node → List ℤ → Outcome ℕ ℤ
derive K ns weights =
    written length (flat_map (λ w. w)) (refuse_if (nat_lt (length weights) (count_by is_belt ns * count_by is_belt ns)) ShortWeights 0 (derived K ns)) weights
