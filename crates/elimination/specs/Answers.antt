-- What the elimination of rows of whole coefficients answers and writes. Assumes nothing.
use Rattle.std.specs.Prelude.{◌≡◌, ℕ, ◌*◌, ◌≤◌, Bool, false, cond, ◌&&◌, ◌↔◌, List, ◌++◌, map, length, drop, ℤ, Ok, Err, Result, ◌==◌, nat_le}
use Rattle.std.specs.List.{flat_map, AllByRecursion}
use Rattle.kinds.specs.Kinds.{Kind}
use Rattle.kinds.specs.Elimination.{at, any_past, eliminate}
use Rattle.kinds.specs.Completeness.{LeadsAbove, Vanishes, Made}
use Rattle.elimination.specs.Memory.{rows_of}
use Rattle.elimination.specs.declared.solve.EliminationError.{EliminationError}
use Rattle.elimination.specs.declared.solve.EliminationError.TheVariants.{Sizes, LargeNumber}

-- at most 32 rows and 256 columns, a coefficient for each row and column, and room for as many balances as rows
abbrev pub sizes_fit : ℕ → ℕ → ℕ → ℕ → Bool
sizes_fit n m coefficients weights = nat_le n 32 && nat_le m 256 && coefficients == n * m && nat_le (n * n) weights

-- the balances of n rows of m whole coefficients each, as a kind of number counts them
abbrev pub balances_of : (K : Kind) → ℕ → ℕ → List ℤ → Result (List (List K.Num)) ℕ
balances_of K n m xs = eliminate K m (rows_of n m (map K.counts xs))

-- accepted: how many balances, and their weights, one after another, before the later numbers; refused: nothing changes
abbrev pub answered : (K : Kind) → List ℤ → Result (List (List K.Num)) ℕ → Result ℕ EliminationError × List ℤ
answered K weights (Ok ws) = let new = flat_map (map K.writes) ws in (Ok (length ws), new ++ drop (length new) weights)
answered K weights (Err b) = (Err (LargeNumber b), weights)

unfoldable pub solved : (K : Kind) → ℕ → ℕ → List ℤ → List ℤ → Result ℕ EliminationError × List ℤ
solved K n m xs weights =
    let go = answered K weights (balances_of K n m xs) in
    cond (sizes_fit n m (length xs) (length weights)) go (Err Sizes, weights)

-- what n rows of m coefficients xs leave in memory: k balances, no more than rows, each within the limit, with its first
-- nonzero weight above zero, and zero in every column; a weighting comes to zero in every column exactly when a nonzero multiple of it is a sum of multiples of them
pub record Exact (K : Kind) (n m : ℕ) (xs : List ℤ) (k : ℕ) (weights : List ℤ) : Type 0 where
  pub few : k ≤ n
  pub small : AllByRecursion (λ w. any_past K w ≡ false) (rows_of k n (map K.counts weights))
  pub signed : AllByRecursion (LeadsAbove K) (rows_of k n (map K.counts weights))
  pub sound : AllByRecursion (λ w. Vanishes K m (rows_of n m (map K.counts xs)) (at K w)) (rows_of k n (map K.counts weights))
  pub exactly : (w : ℕ → K.Num) → Vanishes K m (rows_of n m (map K.counts xs)) w ↔ Made K n (rows_of k n (map K.counts weights)) w
