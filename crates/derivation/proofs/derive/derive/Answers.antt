use Rattle.std.proofs.lemmas.Result.{err_from_is_err_and}
use Rattle.sheet.specs.Views.{nodes_in}
use Rattle.derivation.proofs.Deriving.{refused}
use Rattle.derivation.proofs.derive.derive.Goals as goal

pub returns-in_err-table : goal.returns-in_err-table
returns-in_err-table g c =
    let p = err_from_is_err_and c.from_residual.result c.from_residual.ensures.1 in
    rw (p.1, p.2) (refused g.K.Number.kind (nodes_in c.args.sheet.now) c.args.weights.now _ c.in_err-table.ensures)
