use Rattle.std.proofs.Common.{◌≡◌, [], ◌∷◌, map, ap, ◌∙◌, rules}
use Rattle.std.proofs.lemmas.Fn.{fold_over, fronts}
use Rattle.std.proofs.lemmas.Iterator.{YieldsList-from_slice}
use Rattle.std.proofs.lemmas.List.{map-append}
use Rattle.std.proofs.lemmas.List.Sums.{fold_push}
use Rattle.kinds.specs.Elimination.{divisor_from}
use Rattle.elimination.proofs.rows.row_divisor.Goals as goal

pub returns : goal.returns
returns g c =
    let m = g.T.Number in
    let K = m.kind in
    let row = c.args.row.now in
    fold_over fronts (λ y. y.now) _ (λ ys d. m.sum d ≡ divisor_from K K.zero (map m.sum ys)) _
    (λ ys a x b f' j k.
    let more = ap (divisor_from K K.zero) (map-append m.sum ys (x.now ∷ [])) ∙ fold_push K.divisor K.zero (map m.sum ys) (m.sum x.now) in
    search rules)
    _ row _ _ (YieldsList-from_slice row c.iter.ensures.rest).runs c.zero_sum.ensures c.fold.ensures.ran
