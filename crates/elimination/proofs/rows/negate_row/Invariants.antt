use Rattle.elimination.proofs.Fills.{Mapped}
use Rattle.elimination.proofs.rows.negate_row.Given as goal

abbrev pub invariant-loop-x : goal.invariant-loop-x
invariant-loop-x g l = let m = g.T.Number in Mapped m.value m.kind.neg l.fn.row l.row l.x-index
