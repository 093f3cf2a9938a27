use Rattle.std.proofs.Common.{refl, arith}
use Rattle.forms.proofs.Slots.{one_held}
use Rattle.forms.proofs.gates.constant.Goals as goal

pub returns : goal.returns
returns c = rw c.if-not-high.false (one_held c.args.work.now _ (omega arith) refl)
