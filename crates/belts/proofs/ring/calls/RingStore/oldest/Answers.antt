use Rattle.std.proofs.Common.{◌∙◌}
use Rattle.belts.proofs.Turns.{ring_head}
use Rattle.belts.proofs.ring.calls.RingStore.oldest.Goals as goal

pub returns : goal.returns
returns c = c.then_some.ensures ∙ rw (c.held.ensures, c.from.ensures) (ring_head c.args.self.now)
