use Rattle.std.proofs.Common.{◌∙◌}
use Rattle.sheet.specs.Views.{nodes_in}
use Rattle.forms.specs.Slots.{forms_in}
use Rattle.std.proofs.lemmas.Result.{err_from_is_err_and}
use Rattle.forms.proofs.Numbered.{form_same}
use Rattle.forms.proofs.Told.{form_at, same_equal, same_agree}
use Rattle.forms.proofs.wires.compare_wires.Goals as goal

pub returns-clause-equal : goal.returns-clause-equal
returns-clause-equal c =
    let ns = nodes_in c.args.sheet.now in
    let at = form_at ns (forms_in c.fill.new.self) c.in_ok-fill.ensures.exact in
    same_equal _ _ _ _ _ (c.line.ensures.same ∙ at c.args.one) (c.line-2.ensures.same ∙ at c.args.other) c.same.ensures.equal

pub returns-clause-agree : goal.returns-clause-agree
returns-clause-agree c =
    let ns = nodes_in c.args.sheet.now in
    let at = form_at ns (forms_in c.fill.new.self) c.in_ok-fill.ensures.exact in
    same_agree ns c.args.one c.args.other _ _ _ (c.line.ensures.same ∙ at c.args.one) (c.line-2.ensures.same ∙ at c.args.other) c.same.ensures.alike

pub returns-in_err-fill-clause-numbers : goal.returns-in_err-fill-clause-numbers
returns-in_err-fill-clause-numbers c =
    let p = err_from_is_err_and c.from_residual.result c.from_residual.ensures.1 in
    rw (p.1, p.2) (form_same _ c.in_err-fill.ensures.numbers)
