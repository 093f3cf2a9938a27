use Rattle.std.proofs.Common.{refl, arith}
use Rattle.sheet.specs.Refusals.{term_numbers}
use Rattle.sheet.specs.Views.{nodes_in}
use Rattle.sheet.specs.declared.fault.Refusal.TheVariants.{ShortRecords}
use Rattle.sheet.proofs.Numbers.{or_within}
use Rattle.forms.specs.Slots.{forms_in}
use Rattle.std.proofs.lemmas.Result.{err_from_is_err_and}
use Rattle.forms.proofs.Numbered.{form_term}
use Rattle.forms.proofs.Told.{tells}
use Rattle.forms.proofs.wires.write_wire.Goals as goal

pub returns-clause-tells : goal.returns-clause-tells
returns-clause-tells c =
    tells (nodes_in c.args.sheet.now) (forms_in c.fill.new.self) c.in_ok-fill.ensures.exact c.args.wire _ c.line.ensures.same _ _ _ _ c.write_form.ensures.form c.ok_or.ensures.value

pub returns-in_err-fill-clause-numbers : goal.returns-in_err-fill-clause-numbers
returns-in_err-fill-clause-numbers c =
    let p = err_from_is_err_and c.from_residual.result c.from_residual.ensures.1 in
    rw (p.1, p.2) (form_term _ c.in_err-fill.ensures.numbers)

pub returns-clause-numbers : goal.returns-clause-numbers
returns-clause-numbers c = rw (c.ok_or.ensures.value, c.into.ensures) (or_within term_numbers c.write_form.result ShortRecords 0 (4, omega arith, refl))
