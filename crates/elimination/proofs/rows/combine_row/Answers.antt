use Rattle.std.proofs.Common.{arith}
use Rattle.elimination.proofs.Fills.{less_more, sum_less}
use Rattle.elimination.proofs.rows.combine_row.Goals as goal

pub loop-i-preserved : goal.loop-i-preserved
loop-i-preserved g c =
    let m = g.T.Number in
    let each = sum_less g.met.T.Number.lawful c.negated-minus_c.ensures c.sum_of.ensures in
    less_more m.kind (m.value c.args.a) (m.value c.args.c) m.sum m.value c.loop-i.out c.args.row.now c.args.other.now c.loop-i.i _ _ _ (omega arith) (omega arith) (omega arith) c.index-row-i.is c.index-other-i.is each c.loop-i.invariant
