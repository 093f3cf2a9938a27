use Rattle.std.proofs.Common.{not, length, unwrap_or, ap, ◌∙◌, zero-add, arith}
use Rattle.std.specs.List.{position_or_len}
use Rattle.std.proofs.lemmas.List.Sums.{prefix_len-le-length}
use Rattle.sheet.specs.Views.{nodes_in}
use Rattle.sheet.specs.Parts.{is_part}
use Rattle.derivation.proofs.Lines.{lowest_line}
use Rattle.derivation.proofs.ports.part_line.Goals as goal

pub returns : goal.returns
returns c =
    let ns = c.nodes-nodes.result.now in
    let p = is_part c.args.part c.args.b in
    let line = lowest_line p 0 ns in
    c.unwrap_or.ensures ∙ ap (λ o. unwrap_or o (length ns)) c.find_part.ensures ∙ (rw (zero-add, zero-add) at line) ∙ ap (position_or_len p) c.nodes-nodes.ensures.same

pub overflow_cast-result : goal.overflow_cast-result
overflow_cast-result c =
    let ns = nodes_in c.args.sheet.now in
    omega (arith, returns c, ap length c.nodes-nodes.ensures.same, c.nodes-nodes.ensures.lawful.lines, prefix_len-le-length (λ n. not (is_part c.args.part c.args.b n)) ns)
