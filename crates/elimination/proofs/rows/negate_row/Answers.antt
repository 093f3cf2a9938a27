use Rattle.std.proofs.Common.{sym, ap, ◌∙◌, arith}
use Rattle.elimination.proofs.Fills.{mapped_more}
use Rattle.elimination.proofs.rows.negate_row.Goals as goal

pub loop-x-preserved : goal.loop-x-preserved
loop-x-preserved g c =
    let m = g.T.Number in
    let e = c.negated.ensures ∙ ap (λ y. m.kind.neg (m.value y)) (sym c.x-item.is) in
    mapped_more m.value m.kind.neg c.args.row.now c.loop-x.row c.loop-x.x-index _ _ (omega arith) c.loop-x.auto.row c.x-item.is e c.loop-x.invariant
