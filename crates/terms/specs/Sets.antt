-- Sets of free wires as numbers: bit n tells whether wire n is in the set. Assumes nothing.
use Rattle.std.specs.Prelude.{ℕ, zero, suc, ◌+◌, ◌*◌, ◌/◌, ◌%◌, ◌^◌, Bool, List, [], ◌∷◌, ◌==◌}

-- the number that bytes spell, byte 0 lowest
abbrev pub number_of : List ℕ → ℕ
number_of [] = 0
number_of (b ∷ bs) = b + 256 * number_of bs

-- the lowest n bytes of a number, byte 0 first
abbrev pub bytes_of : ℕ → ℕ → List ℕ
bytes_of zero s = []
bytes_of (suc n) s = s % 256 ∷ bytes_of n (s / 256)

-- wire n is in the set s
abbrev pub holds : ℕ → ℕ → Bool
holds s n = s / 2 ^ n % 2 == 1
