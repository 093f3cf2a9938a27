-- Which belts a rack's rows stand for. Assumes nothing.
use Rattle.std.specs.Prelude.{List, map, take}
use Rattle.belts.specs.Belts.{Model}
use Rattle.belts.specs.Layouts.{row_of}
use Rattle.banks.specs.declared.rack.Rack.{Rack}

-- the rows in use, by what each means
abbrev pub rack_of : Rack → List Model
rack_of k = map row_of (take k.size k.rows)
