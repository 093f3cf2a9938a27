-- What is filed so far, with the kept rows in memory. Assumes nothing.
use Rattle.std.specs.Prelude.{◌≡◌, ℕ, ◌*◌, List, map, take}
use Rattle.kinds.specs.Kinds.{Kind}
use Rattle.kinds.specs.Elimination.{State}
use Rattle.elimination.specs.Memory.{kept_of, state_of}
use Rattle.elimination.specs.declared.filed.Filed.{Filed}
use Rattle.elimination.specs.declared.kept.Kept.{Kept}

-- the kept rows, each with its lowest column, by what their numbers mean
abbrev pub kept_in : {T N : Type 0} → (T → N) → Kept T → List (ℕ × List N)
kept_in value k = kept_of k.size k.leads.now (map value k.rows.now)

-- the rows that are kept, of `size` numbers each, and the balances, of n weights each
abbrev pub state_in : (K : Kind) → (n size : ℕ) → Filed → List K.Num → State K.Num
state_in K n size f rows = state_of n size f.used f.found f.leads rows (map K.counts f.weights)

-- what stands in the memory of the balances is numbers as they are written
abbrev pub AsWritten : (K : Kind) → ℕ → Filed → Type 0
AsWritten K n f = map K.writes (map K.counts (take (f.found * n) f.weights)) ≡ take (f.found * n) f.weights
