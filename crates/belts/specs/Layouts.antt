-- Which words the cells of a ring and the bits of a packed row stand for. Assumes nothing.
use Rattle.std.specs.Prelude.{ℕ, zero, suc, ◌+◌, ◌-◌, ◌/◌, ◌%◌, Bool, cond, List, [], ◌∷◌, ◌++◌, take, drop, ◌==◌, nat_le}
use Rattle.belts.specs.Belts.{Model}
use Rattle.belts.specs.declared.ring.Ring.{Ring}
use Rattle.belts.specs.declared.row.PackedRow.{PackedRow}

-- the place after one, going round
abbrev pub after : ℕ → ℕ → ℕ
after places at = cond (at + 1 == places) 0 (at + 1)

-- how many words stand from the exit place to the entry place: where the two meet, the full mark tells all from none
abbrev pub filled : ℕ → ℕ → ℕ → Bool → ℕ
filled places enter leave full = cond full places (cond (nat_le leave enter) (enter - leave) (enter + places - leave))

-- a list from one of its places on, going round
abbrev pub turned : ℕ → List ℕ → List ℕ
turned at xs = drop at xs ++ take at xs

-- a ring's words: from its exit place on, going round, as many as are filled
abbrev pub ring_words : List ℕ → ℕ → ℕ → ℕ → Bool → List ℕ
ring_words cells places enter leave full = take (filled places enter leave full) (turned leave (take places cells))

abbrev pub ring_of : Ring → Model
ring_of r = record { places = r.places; width = r.width; words = ring_words r.cells r.places r.enter r.leave r.full }

-- words of four bits each in one number, the first in the lowest bits
abbrev pub unpacked : ℕ → ℕ → List ℕ
unpacked zero bits = []
unpacked (suc n) bits = (bits % 16) ∷ unpacked n (bits / 16)

abbrev pub row_of : PackedRow → Model
row_of r = record { places = r.places; width = r.width; words = unpacked r.count r.bits }
