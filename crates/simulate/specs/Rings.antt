-- Which belts some rings stand for. Assumes nothing.
use Rattle.std.specs.Prelude.{List, map}
use Rattle.belts.specs.Belts.{Model}
use Rattle.belts.specs.Layouts.{ring_of}
use Rattle.simulate.specs.declared.rings.Rings.{Rings}

-- the rings, by what each means
abbrev pub rings_of : Rings → List Model
rings_of k = map ring_of k.rings.items
