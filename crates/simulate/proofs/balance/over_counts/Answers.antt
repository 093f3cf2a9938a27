use Rattle.std.proofs.Common.{pos, slice_index, ℤ, ◌*ℤ◌, ap, ap₂, ◌∙◌, w32, SFits, rules, arith}
use Rattle.std.proofs.lemmas.Int.{to_z-of_z}
use Rattle.flows.specs.Completeness.{weighting}
use Rattle.simulate.proofs.Sums.{sum_on}
use Rattle.simulate.proofs.balance.over_counts.Goals as goal

pub loop-belt-preserved : goal.loop-belt-preserved
loop-belt-preserved c =
    let l = c.loop-belt in
    let p = c.product-sum.ensures in
    let weight = weighting c.args.weights.now l.belt in
    let fits : SFits w32 weight = search rules in
    let next = p.value ∙ ap₂ (λ (x y : ℤ). x *ℤ y) (to_z-of_z w32 weight fits) (ap (λ n. pos n) c.count_in.ensures) in
    sum_on (weighting c.args.weights.now) (λ b. pos (slice_index c.args.counts.now b)) l.belt _ c.product-sum.result l.invariant.0 next (omega arith) l.invariant.1 l.invariant.2 p.above p.below
