use Rattle.std.proofs.Common.{arith}
use Rattle.std.proofs.lemmas.Result.{err_from_is_err_and}
use Rattle.derivation.proofs.Found.{gathered_on, overfull, all_gathered}
use Rattle.derivation.proofs.flow.Worked.collect.Goals as goal

pub returns-in_err-add_all : goal.returns-in_err-add_all
returns-in_err-add_all c =
    let p = err_from_is_err_and c.from_residual.result c.from_residual.ensures.1 in
    let t = c.in_err-add_all.ensures in
    rw (p.1, p.2)
    (t.0, overfull _ _ c.loop-b.columns c.add_all.new.self _ _ c.loop-b.b (omega (arith, c.belts-b-end.ensures)) c.loop-b.invariant c.flow-n.ensures.form t.1)

pub loop-b-preserved : goal.loop-b-preserved
loop-b-preserved c =
    let t = c.in_ok-add_all.ensures in
    gathered_on _ _ c.loop-b.columns c.add_all.new.self _ _ c.loop-b.b (omega (arith, c.belts-b-end.ensures)) c.loop-b.invariant c.flow-n.ensures.form c.flow-n.ensures.within c.flow-n.array_long t.0 t.1

pub returns : goal.returns
returns c = (c.loop-b.invariant.most, all_gathered _ _ c.loop-b.columns c.loop-b.b (omega (arith, c.belts-b-end.ensures)) c.loop-b.invariant)
