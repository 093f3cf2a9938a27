use Rattle.std.proofs.Common.{◌≡◌, ◌*◌, ◌^◌, pos, neg_ℤ, ◌≤ℤ◌, slice_index}
use Rattle.flows.specs.Completeness.{comes_to, weighting}
use Rattle.simulate.proofs.balance.over_counts.Given as goal

abbrev pub invariant-loop-belt : goal.invariant-loop-belt
invariant-loop-belt l =
    (l.sum ≡ comes_to l.belt (weighting l.weights) (λ b. pos (slice_index l.counts b)))
    × (neg_ℤ (pos (2 ^ 47 * l.belt)) ≤ℤ l.sum) × (l.sum ≤ℤ pos (2 ^ 47 * l.belt))
