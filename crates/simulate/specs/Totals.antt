-- Totals that stay at the largest number of 64 bits. Assumes nothing.
use Rattle.std.specs.Prelude.{ℕ, ◌+◌, ◌-◌, ◌^◌, min}

-- so many more, at most the largest number
abbrev pub capped_sum : ℕ → ℕ → ℕ
capped_sum n more = min (n + more) (2 ^ 64 - 1)
