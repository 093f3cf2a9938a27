use Rattle.std.proofs.Common.{[], ◌∷◌, ◌++◌, sym, refl, ap, ◌∙◌, arith}
use Rattle.std.proofs.lemmas.List.{append_assoc, append-nil}
use Rattle.sheet.proofs.Drafting.{none_counted}
use Rattle.sheet.proofs.Sheets.{lawful}
use Rattle.sheet.specs.Views.{nodes_in}
use Rattle.line.proofs.Bits.{word_small, word_on, small_places}
use Rattle.line.proofs.Rules.{few_bits}
use Rattle.line.proofs.moves.words.Goals as goal

pub loop-node-init : goal.loop-node-init
loop-node-init c =
    let start = ap (λ r. r.iter.rest.now) c.into_iter-node-iterator.ensures.into_iter_gives ∙ ap (λ r. r.rest.now) c.rev-node-items.ensures.source ∙ c.iter.ensures.rest ∙ c.nodes.ensures.same in
    (refl, ([], sym (append-nil _ ∙ start), λ b _. none_counted b))

pub enter_bit-requires : goal.enter_bit-requires
enter_bit-requires c =
    let l = c.loop-node in
    let tail = l.invariant.1.0 in
    small_places l.words l.invariant.0 (λ b h. omega (arith, l.invariant.1.2 b h, word_small c.args.wires.now (nodes_in c.args.sheet.now) l.node-iterator.iter.rest.now tail b l.invariant.1.1 (few_bits (nodes_in c.args.sheet.now) (lawful c.args.sheet.now) b)))

pub loop-node-preserved : goal.loop-node-preserved
loop-node-preserved c =
    let l = c.loop-node in
    let x = c.in-Some.node.now in
    let tail = l.invariant.1.0 in (
      c.enter_bit.auto.words ∙ l.invariant.0,
      (
        x ∷ tail,
        l.invariant.1.1 ∙ ap (λ front. front ++ tail) c.in-Some.ensures.steps ∙ append_assoc c.next.new.self.iter.rest.now (x ∷ []) tail,
        λ b h. word_on c.args.wires.now x tail b _ _ (l.invariant.1.2 b h) (c.enter_bit.ensures b (omega arith)),
      ),
    )
