use Rattle.std.proofs.Common.{◌≡◌}
use Rattle.line.specs.Views.{view}
use Rattle.simulate.specs.Sums.{counts_of}
use Rattle.simulate.proofs.watch.counts_of.Given as goal

abbrev pub invariant-loop-b : goal.invariant-loop-b
invariant-loop-b g l = l.counts.items ≡ counts_of (view g.B.Bank.belts l.line) l.b
