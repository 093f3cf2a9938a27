use Rattle.std.proofs.Common.{sym, ap}
use Rattle.belts.specs.Belts.{rest, holding}
use Rattle.belts.specs.Layouts.{ring_of}
use Rattle.belts.proofs.Turns.{ring_oldest}
use Rattle.belts.proofs.ring.calls.RingStore.advance.Goals as goal

pub returns : goal.returns
returns c =
    let r = c.args.self.now in
    simp c.after_place-self.ensures (ap (holding (ring_of r)) (sym (ap rest (ring_oldest r c.requires))))
