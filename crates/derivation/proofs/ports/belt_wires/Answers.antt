use Rattle.std.proofs.Common.{get_or, unwrap_or, sym, ap, ◌∙◌, rules}
use borrow.Author.Tests.{tests}
use Rattle.std.proofs.lemmas.Iterator.{YieldsList-from_slice}
use Rattle.std.proofs.lemmas.Iterator.Adapters.{option_map_id}
use Rattle.std.proofs.lemmas.Iterator.Consumers.{YieldsList-from_filter_map, nth_from_yields_List}
use Rattle.std.proofs.lemmas.Option.{unwrap_or-slice_get}
use Rattle.sheet.specs.Nodes.{belts_of, offer_and_take}
use Rattle.sheet.proofs.Sheets.{told_belts}
use Rattle.derivation.proofs.ports.belt_wires.Goals as goal

pub returns : goal.returns
returns c =
    let b = c.args.b in
    let ns = c.nodes.result.now in
    let found = nth_from_yields_List c.nth.result _ b c.nth.ensures.ran (YieldsList-from_filter_map _ offer_and_take (YieldsList-from_slice ns cc) c.filter_map.ensures.closure (λ x r q k. search (rules, tests))) in
    c.unwrap_or.ensures ∙ ap (λ o. unwrap_or o (0, 0)) (sym (option_map_id _) ∙ found) ∙ unwrap_or-slice_get _ b (0, 0)
    ∙ ap (λ xs. get_or xs b (0, 0)) (told_belts ns ∙ ap belts_of c.nodes.ensures.same)
