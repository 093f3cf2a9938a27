use Rattle.elimination.proofs.Fills.{Mapped}
use Rattle.elimination.proofs.rows.divide_row.Given as goal

abbrev pub invariant-loop-x : goal.invariant-loop-x
invariant-loop-x g l = let m = g.T.Number in Mapped m.sum (λ x. m.kind.quotient x (m.sum l.d)) l.fn.row l.row l.x-index
