use Rattle.std.proofs.Common.{◌≡◌}
use Rattle.terms.specs.Records.{form_in}
use Rattle.flows.specs.Columns.{merged}
use Rattle.derivation.specs.Memory.{columns_in}
use Rattle.derivation.proofs.Walking.{row_from}
use Rattle.derivation.proofs.rows.fill_row.Given as goal

abbrev pub invariant-loop-j : goal.invariant-loop-j
invariant-loop-j l = row_from l.columns l.row (form_in l.left) l.j ≡ merged (columns_in l.columns) (form_in l.flow)
