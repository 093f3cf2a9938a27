use Rattle.std.proofs.Common.{◌≡◌, ◌-◌, take, not, false, sym, ap, ◌∙◌, rules, tests, arith}
use Rattle.std.specs.List.{find}
use Rattle.std.specs.Option.{option_map, option_map_or}
use Rattle.std.proofs.lemmas.Iterator.{YieldsList-from_slice}
use Rattle.std.proofs.lemmas.Iterator.Search.{find_from_yields_List}
use Rattle.elimination.proofs.Fills.{leads_found, some_and}
use Rattle.elimination.proofs.rows.leads_below.Goals as goal

pub returns : goal.returns
returns g c =
    let m = g.T.Number in
    let row = c.args.row.now in
    let n : c.args.n - 0 ≡ c.args.n = omega arith in
    let found : option_map (λ y. y.now) c.find.result ≡ find (λ x. not (m.kind.is_zero (m.value x))) (take c.args.n row) =
    find_from_yields_List _ _ _ c.find.result c.find.ensures.ran (YieldsList-from_slice (take c.args.n row) (c.iter.ensures.rest ∙ ap (λ k. take k row) n)) (λ x b q k. search (rules, tests)) in
    some_and c.find.result c.is_some_and.result (λ y. y.now) (λ x. m.kind.below (m.value x)) _ c.is_some_and.ensures (λ x k. search (rules, tests))
    ∙ ap (λ o. option_map_or (λ x. m.kind.below (m.value x)) o false) found ∙ sym (leads_found m.kind m.value c.args.n row)
