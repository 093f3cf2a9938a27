use Rattle.std.proofs.Common.{◌*◌, ◌∙◌, take, ap}
use Rattle.std.proofs.lemmas.Result.{err_from_is_err_and}
use Rattle.sheet.specs.Views.{nodes_in}
use Rattle.forms.specs.Slots.{forms_in}
use Rattle.derivation.proofs.Tabling.{past_columns, columns_many, within_limits, table_rows}
use Rattle.derivation.proofs.table.Table.of.Goals as goal

pub returns-in_err-columns : goal.returns-in_err-columns
returns-in_err-columns c =
    let p = err_from_is_err_and c.from_residual-in_err-columns.result c.from_residual-in_err-columns.ensures.1 in
    let t = c.in_err-columns.ensures in
    rw (p.1, p.2, t.0)
    (past_columns (nodes_in c.args.sheet.now) (forms_in c.in_ok-forms.forms) c.in_ok-forms.ensures.exact t.1)

pub returns : goal.returns
returns c =
    let ns = nodes_in c.args.sheet.now in
    let fs = forms_in c.in_ok-forms.forms in
    let allowed = c.in_ok-forms.ensures.exact in
    let columns = c.in_ok-columns.columns in
    let t = c.in_ok-columns.ensures in
    record {
      accepted = within_limits ns fs allowed columns t.0 t.1;
      belts = c.belts.ensures;
      columns = columns_many ns fs allowed columns t.0 t.1;
      rows = ap (λ k. take (k * columns.used) c.fill_rows.new.numbers) c.belts.ensures ∙ table_rows ns fs allowed columns t.0 t.1 _ _ c.terms.ensures c.fill_rows.ensures;
    }
