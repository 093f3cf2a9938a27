use Rattle.std.proofs.Common.{◌≡◌, ◌<◌, length, take, sym, ap, ◌∙◌, arith, length-set, rules}
use Rattle.std.specs.List.{filter_map}
use borrow.Author.Tests.{tests}
use Rattle.std.proofs.lemmas.Iterator.{YieldsList-from_slice}
use Rattle.line.specs.Moving.{next_of}
use Rattle.line.proofs.Collecting.{collected_one, numbered_turn, numbered_end, told_flops, length_flops}
use Rattle.line.proofs.Rules.{flops_free}
use Rattle.line.proofs.moves.next_flops.Goals as goal

turn : (c : goal.In-Some) → (c.in-Some.k ≡ length c.loop-k.yielded) × (length c.loop-k.yielded < length (filter_map (next_of c.args.wires.now) c.nodes-nodes.result.now))
turn c =
    let l = c.loop-k in
    let f = next_of c.args.wires.now in
    numbered_turn c.into_iter-k-iterator.result l.k-iterator l.yielded l.yielded_by f c.filter_map-values.result (cc) (cc) (YieldsList-from_slice c.nodes-nodes.result.now (cc)) c.filter_map-values.ensures.closure
    (λ x r q k. search (rules, tests)) c.next.result c.next.new.self c.in-Some.k c.in-Some.value c.in-Some.is c.next.ensures.steps

pub bounds-flops-k : goal.bounds-flops-k
bounds-flops-k c =
    let ns = c.nodes-nodes.result.now in
    let t = turn c in
    omega (arith, t.0, t.1, length_flops c.args.wires.now ns, flops_free ns, c.nodes-nodes.ensures.lawful.free)

pub loop-k-preserved : goal.loop-k-preserved
loop-k-preserved c =
    let l = c.loop-k in
    let t = turn c in
    let within : c.in-Some.k < 128 = bounds-flops-k c in
    (length-set l.flops _ _ ∙ l.invariant.0, collected_one l.flops l.yielded _ _ t.0 (omega (arith, t.0, within, l.invariant.0)) l.invariant.1)

pub returns : goal.returns
returns c =
    let ns = c.nodes-nodes.result.now in
    let ws = c.args.wires.now in
    let l = c.loop-k in
    let e = numbered_end c.into_iter-k-iterator.result l.k-iterator l.yielded l.yielded_by (next_of ws) c.filter_map-values.result (cc) (cc) (YieldsList-from_slice ns (cc)) c.filter_map-values.ensures.closure
    (λ x r q k. search (rules, tests)) c.next.result c.next.new.self c.in-None.is c.next.ensures.steps in
    rw (← c.nodes-nodes.ensures.same) (ap (λ n. take n l.flops) (sym (e.1 ∙ length_flops ws ns)) ∙ l.invariant.1 ∙ e.0 ∙ told_flops ws ns)
