use Rattle.std.proofs.Common.{map, Ok, sym, ap, ◌∙◌, subst, arith}
use Rattle.std.proofs.lemmas.Result.{err_from_is_err_and}
use Rattle.elimination.specs.Memory.{rows_of}
use Rattle.elimination.specs.Answers.{answered}
use Rattle.elimination.specs.States.{AsWritten}
use Rattle.elimination.proofs.Written.{all_balances, answered_rows, same_table, solved_unfit, solved_fit, fits}
use Rattle.elimination.proofs.Readback.{exact}
use Rattle.elimination.proofs.solve.solve.Goals as goal

pub returns-in_err-table-clause-result : goal.returns-in_err-table-clause-result
returns-in_err-table-clause-result g c =
    let a = c.args in
    let p = err_from_is_err_and c.from_residual.result c.from_residual.ensures.1 in
    let u = c.in_err-table.ensures.unfit in
    rw (p.1, p.2, u.0) (solved_unfit g.T.Number.kind a.n a.m a.coefficients.now a.weights.now u.1)

pub returns-in_err-eliminate-clause-result : goal.returns-in_err-eliminate-clause-result
returns-in_err-eliminate-clause-result g c =
    let a = c.args in
    let k = g.T.Number.kind in
    let p = err_from_is_err_and c.from_residual-in_err-eliminate.result c.from_residual-in_err-eliminate.ensures.1 in
    let t = c.in_ok-table.ensures.fits in
    let h = c.in_err-eliminate.ensures in
    rw (p.1, p.2, h.1) (ap (answered k a.weights.now) (sym (same_table k t.1 t.2 t.3 ∙ h.2)) ∙ solved_fit k a.n a.m a.coefficients.now a.weights.now t.0)

pub returns-clause-result : goal.returns-clause-result
returns-clause-result g c =
    let a = c.args in
    let k = g.T.Number.kind in
    let t = c.in_ok-table.ensures.fits in
    let f = c.eliminate.new.filed in
    let h = c.in_ok-eliminate.ensures in
    let w = subst (λ z. AsWritten k z f) t.1 h.1 in
    let fit = fits a.n a.m _ _ t.0 in
    let l = all_balances f.found a.n (omega (arith, h.0, t.1)) fit.few in
    answered_rows k a.n f.found f.weights a.weights.now c.write_front.new.weights (omega (arith, l.1)) w c.write_front.ensures
    ∙ ap (answered k a.weights.now) (sym (same_table k t.1 t.2 t.3 ∙ h.2 ∙ ap (λ z. Ok (rows_of f.found z (map k.counts f.weights))) t.1))
    ∙ solved_fit k a.n a.m a.coefficients.now a.weights.now t.0

pub returns-clause-exact : goal.returns-clause-exact
returns-clause-exact g c =
    let a = c.args in
    exact g.met.T.Number.lawful a.n a.m a.coefficients.now a.weights.now _ _ (returns-clause-result g c)
