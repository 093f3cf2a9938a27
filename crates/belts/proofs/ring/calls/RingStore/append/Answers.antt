use Rattle.std.proofs.Common.{ap}
use Rattle.belts.specs.Belts.{holding}
use Rattle.belts.specs.Layouts.{ring_of}
use Rattle.belts.proofs.Turns.{ring_append}
use Rattle.belts.proofs.ring.calls.RingStore.append.Goals as goal

pub returns : goal.returns
returns c =
    let r = c.args.self.now in
    simp (c.from.ensures, c.after_place-self.ensures) (ap (holding (ring_of r)) (ring_append r c.args.word c.requires.0))
