use Rattle.std.proofs.Common.{◌≡◌, length}
use Rattle.forms.proofs.Filled.{Filled}
use Rattle.forms.proofs.filling.steps.fill.Given as goal

abbrev pub invariant-loop-i : goal.invariant-loop-i
invariant-loop-i l = Filled l.node-items l.slots l.i l.filling.free l.filling.terms × (length l.slots ≡ length l.initial.slots)
