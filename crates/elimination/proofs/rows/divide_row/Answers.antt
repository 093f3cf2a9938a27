use Rattle.std.proofs.Common.{sym, ap, ◌∙◌, arith}
use Rattle.elimination.proofs.Fills.{mapped_more}
use Rattle.elimination.proofs.rows.divide_row.Goals as goal

pub loop-x-preserved : goal.loop-x-preserved
loop-x-preserved g c =
    let m = g.T.Number in
    let e = c.quotient.ensures ∙ ap (λ y. m.kind.quotient (m.sum y) (m.sum c.args.d)) (sym c.x-item.is) in
    mapped_more m.sum (λ x. m.kind.quotient x (m.sum c.args.d)) c.args.row.now c.loop-x.row c.loop-x.x-index _ _ (omega arith) c.loop-x.auto.row c.x-item.is e c.loop-x.invariant
