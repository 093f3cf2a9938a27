use Rattle.std.proofs.Common.{map, take, sym, ap, ◌∙◌, arith}
use Rattle.std.proofs.lemmas.List.{take_all, take-map, take-replicate}
use Rattle.elimination.proofs.Fills.{weights_set}
use Rattle.elimination.proofs.rows.set_weights.Goals as goal

pub returns : goal.returns
returns g c =
    let m = g.T.Number in
    let row = c.loop-x.row in
    let i = c.loop-x.x-index in
    let all = ap (map m.value) (sym (take_all i row (omega arith))) ∙ c.loop-x.invariant in
    weights_set m.kind m.value row c.args.n c.args.b _ c.requires.inside c.one.ensures
    (sym (take-map m.value c.args.n row) ∙ ap (λ xs. take c.args.n xs) all ∙ take-replicate c.args.n i m.kind.zero (omega arith))
