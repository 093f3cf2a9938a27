-- What the event bytes of a tick tell. Assumes nothing.
use Rattle.std.specs.Prelude.{ℕ, ◌+◌, ◌*◌, List, map, slice_index}
use Rattle.std.specs.List.{range_with_len}

-- of two bytes for each of the first n belts, entered and left, those entered
abbrev pub entered_in : ℕ → List ℕ → List ℕ
entered_in n bytes = map (λ b. slice_index bytes (2 * b)) (range_with_len 0 n)

-- of two bytes for each of the first n belts, entered and left, those left
abbrev pub left_in : ℕ → List ℕ → List ℕ
left_in n bytes = map (λ b. slice_index bytes (2 * b + 1)) (range_with_len 0 n)
