use Rattle.std.proofs.Common.{◌∙◌, arith, w32, FitsSigned, rules}
use Rattle.std.proofs.lemmas.Int.{to_z-of_z}
use Rattle.elimination.proofs.Fills.{written_more}
use Rattle.elimination.proofs.filed.keeping.write_weights.Goals as goal

pub loop-i-preserved : goal.loop-i-preserved
loop-i-preserved g c =
    let m = g.T.Number in
    let a = c.args in
    let f : FitsSigned w32 c.written.result = search rules in
    written_more m.kind.writes m.value a.row.now a.weights.now c.loop-i.weights a.at c.loop-i.i _ _ (omega arith) (omega arith) c.index-row-i.is (to_z-of_z w32 c.written.result f ∙ c.written.ensures) c.loop-i.invariant
