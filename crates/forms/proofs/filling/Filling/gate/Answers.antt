use Rattle.std.proofs.Common.{ap, sym, ◌∙◌, arith}
use Rattle.std.proofs.lemmas.Result.{err_from_is_err_and}
use Rattle.sheet.specs.declared.node.Node.TheVariants.{Gate}
use Rattle.forms.specs.Gates.{together}
use Rattle.forms.proofs.filling.Filling.gate.Goals as goal

pub returns-in_err-admit : goal.returns-in_err-admit
returns-in_err-admit c =
    let p = err_from_is_err_and c.from_residual.result c.from_residual.ensures.1 in
    rw (p.1, p.2) (ap (together _ _ (Gate c.args.gate)) (sym c.work_out-n.ensures.form) ∙ c.in_err-admit.ensures.exact c.args.gate)

pub returns : goal.returns
returns c =
    let form = c.work_out-n.ensures.form in
    let k = c.in_ok-admit.ensures in
    (c.hold.ensures ∙ form, ap (together _ _ (Gate c.args.gate)) (sym form) ∙ k.exact c.args.gate, omega (arith, k.free))
