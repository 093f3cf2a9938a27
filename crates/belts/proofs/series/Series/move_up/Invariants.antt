use Rattle.std.proofs.Common.{◌≡◌, length}
use Rattle.belts.specs.Belts.{in_series}
use Rattle.belts.proofs.series.Series.move_up.Given as goal

abbrev pub invariant-loop-self : goal.invariant-loop-self
invariant-loop-self g l = in_series (g.F.Belt.model l.self.front) (g.R.Belt.model l.self.rear) ≡ in_series (g.F.Belt.model l.initial.self.front) (g.R.Belt.model l.initial.self.rear)

abbrev pub decreases-loop-self : goal.decreases-loop-self
decreases-loop-self g l = length (g.R.Belt.model l.self.rear).words
