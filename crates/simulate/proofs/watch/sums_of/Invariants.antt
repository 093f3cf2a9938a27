use Rattle.std.proofs.Common.{◌≡◌, map, take}
use Rattle.simulate.specs.Sums.{sum_of}
use Rattle.simulate.proofs.watch.sums_of.Given as goal

abbrev pub invariant-loop-balance : goal.invariant-loop-balance
invariant-loop-balance l = l.sums.items ≡ map (λ b. sum_of b l.counts) (take l.balance-index l.balances)
