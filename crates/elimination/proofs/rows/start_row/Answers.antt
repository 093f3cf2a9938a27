use Rattle.std.proofs.Common.{◌++◌, map, take, ap, ◌∙◌}
use Rattle.std.proofs.lemmas.Result.{on_ok_weaker}
use Rattle.elimination.proofs.Fills.{past_behind}
use Rattle.elimination.proofs.rows.start_row.Goals as goal

pub returns-clause-stored : goal.returns-clause-stored
returns-clause-stored g c =
    let m = g.T.Number in
    let w = c.set_weights.ensures in
    let new = map m.kind.counts c.args.coefficients.now in
    on_ok_weaker c.set_coefficients.result (λ s. (past_behind m.kind m.value g.met.T.Number.within (take c.args.n c.set_weights.new.row) _ new w ∙ s.0, s.1 ∙ ap (λ xs. xs ++ new) w)) c.set_coefficients.ensures.stored
