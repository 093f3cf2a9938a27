use Rattle.std.proofs.Common.{◌≡◌, length}
use Rattle.derivation.specs.Memory.{columns_in, rows_over}
use Rattle.derivation.specs.Tables.{flows_in}
use Rattle.derivation.proofs.Walking.{rows_from}
use Rattle.derivation.proofs.flow.Worked.fill_rows.Given as goal

abbrev pub invariant-loop-b : goal.invariant-loop-b
invariant-loop-b l =
    let flows = flows_in l.self in
    (length l.numbers ≡ 8192)
    × (rows_from (columns_in l.columns) flows l.numbers (length l.columns) l.b ≡ rows_over (columns_in l.columns) flows)
