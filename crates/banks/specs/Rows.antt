-- The rows of a rack that are in use, by what each means: what the laws of banks rest on. Assumes nothing.
use Rattle.std.specs.Prelude.{◌≡◌, ℕ, zero, suc, List, [], ◌∷◌, map, length, take}
use Rattle.std.proofs.Common.{◌∙◌, arith}
use Rattle.std.proofs.lemmas.List.{length-map, length-take-le}
use Rattle.belts.specs.Belts.{Model}
use Rattle.belts.specs.Layouts.{row_of}
use Rattle.banks.specs.Banks.{absent, numbered}
use Rattle.banks.specs.Racks.{rack_of}
use Rattle.banks.specs.declared.rack.Rack.{Rack}

pub length_rack : (k : Rack) → length (rack_of k) ≡ k.size
length_rack k = length-map (take k.size k.rows) row_of ∙ length-take-le k.size k.rows (omega arith)

-- of belts of any kind, by what each means: what holds of an absent belt and of each of them, holds at each number
pub each_belt : {R : Type 0} (means : R → Model) (P : Model → Type 0) → P absent → ((r : R) → P (means r)) → (rs : List R) (i : ℕ) → P (numbered (map means rs) i)
each_belt means P none each [] i = none
each_belt means P none each (r ∷ rs) zero = each r
each_belt means P none each (r ∷ rs) (suc i) = each_belt means P none each rs i
