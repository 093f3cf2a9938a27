use Rattle.std.proofs.Common.{◌≡◌, map, replicate}
use Rattle.belts.specs.Belts.{made}
use Rattle.belts.specs.Layouts.{ring_of}
use Rattle.simulate.proofs.rings.calls.alike.Given as goal

abbrev pub invariant-loop : goal.invariant-loop
invariant-loop l = map ring_of l.rings.items ≡ replicate l.counter (made l.places 4)
