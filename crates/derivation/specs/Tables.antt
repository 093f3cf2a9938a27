-- The table of a sheet's flows, and why there may be none. Assumes nothing.
use Rattle.std.specs.Prelude.{◌≡◌, ℕ, ◌*◌, ◌<◌, ◌≤◌, List, length, take, ℤ, Ok, Err, count_by, Result, nat_lt}
use Rattle.std.specs.List.{flat_map}
use Rattle.sheet.specs.declared.node.Node.{Node}
use Rattle.sheet.specs.declared.fault.Fault.{Fault}
use Rattle.sheet.specs.declared.fault.Refusal.TheVariants.{ShortWeights, ManyColumns, LargeNumber}
use Rattle.sheet.specs.Nodes.{is_belt}
use Rattle.sheet.specs.Views.{nodes_in}
use Rattle.sheet.specs.Refusals.{fault, and_then, refuse_if}
use Rattle.terms.specs.Forms.{Form}
use Rattle.forms.specs.Gates.{limits}
use Rattle.forms.specs.Slots.{forms_in}
use Rattle.flows.specs.Flows.{flows_of}
use Rattle.flows.specs.Columns.{columns_of, table}
use Rattle.elimination.specs.declared.solve.EliminationError.{EliminationError}
use Rattle.elimination.specs.declared.solve.EliminationError.TheVariants as Why
use Rattle.derivation.specs.declared.columns.Columns.{Columns}
use Rattle.derivation.specs.declared.flow.Worked.{Worked}
use Rattle.derivation.specs.declared.table.Table.{Table}
use Rattle.derivation.specs.Memory.{columns_in, findings, flows_by}

-- the columns that are listed, and how often their terms were found together
abbrev pub sets_in : Columns → List ℕ
sets_in c = columns_in (take c.used c.records)

abbrev pub found_in : Columns → ℕ
found_in c = findings (take c.used c.records)

-- these columns are listed; terms were found at most k times
pub record Lists (k : ℕ) (cs : List ℕ) (c : Columns) : Type 0 where
  pub columns : sets_in c ≡ cs
  pub few : found_in c ≤ k

-- the flows of a sheet's belts, from the forms of its lines
abbrev pub flows_in : Worked → List Form
flows_in w = flows_by (nodes_in w.sheet.now) (forms_in w.forms.now)

-- the rows of a table, one after another
abbrev pub rows_in : Table → List ℤ
rows_in t = take (t.belts * t.columns) t.numbers

-- what is tested before a table is made: the limits of the gates' forms, and the number of columns
abbrev pub tested : List Node → Result (Unit {0}) Fault
tested ns = and_then (limits ns) (λ _. refuse_if (nat_lt 256 (length (columns_of (flows_of ns)))) ManyColumns 0 (Ok tt))

-- the table of the flows of a sheet's belts
pub record Tabled (ns : List Node) (t : Table) : Type 0 where
  pub accepted : tested ns ≡ Ok tt
  pub belts : t.belts ≡ count_by is_belt ns
  pub columns : t.columns ≡ length (columns_of (flows_of ns))
  pub rows : rows_in t ≡ flat_map (λ row. row) (table (flows_of ns))

abbrev pub Untabled : List Node → Fault → Type 0
Untabled ns e = tested ns ≡ Err e

-- what derivation tests first: a place for as many balances as belts
abbrev pub tested_first : List Node → ℕ → Result (Unit {0}) Fault
tested_first ns room = refuse_if (nat_lt room (count_by is_belt ns * count_by is_belt ns)) ShortWeights 0 (tested ns)

-- the table of a sheet whose tests have passed
pub record Tabulated (ns : List Node) (room : ℕ) (t : Table) : Type 0 where
  pub passed : tested_first ns room ≡ Ok tt
  pub tabled : Tabled ns t

-- what derivation answers where a test fails, in any kind of number
abbrev pub Refuses : List Node → ℕ → Fault → Type 0
Refuses ns room e = tested_first ns room ≡ Err e

-- the answer of an elimination whose sizes fit: a row past the limit is named by its belt
abbrev pub by_belt : Result ℕ EliminationError → Result ℕ Fault
by_belt (Ok k) = Ok k
by_belt (Err Why.Sizes) = Err (fault LargeNumber 0)
by_belt (Err (Why.LargeNumber b)) = Err (fault LargeNumber b)

-- a row that is named is one of 32
abbrev pub Rowed : Result ℕ EliminationError → Type 0
Rowed (Ok k) = Unit {0}
Rowed (Err Why.Sizes) = Unit {0}
Rowed (Err (Why.LargeNumber b)) = b < 32
