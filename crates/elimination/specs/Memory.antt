-- How rows lie in memory, one after another, and what the code's answers about one row mean. Assumes nothing.
use Rattle.std.specs.Prelude.{ℕ, zero, suc, ◌+◌, Bool, List, [], ◌∷◌, take, drop, Option, Some, None}
use Rattle.kinds.specs.Kinds.{Kind}
use Rattle.kinds.specs.Elimination.{at, leads_below, Handled, kept, balance, State}

-- the first k rows of n numbers each
abbrev pub rows_of : {A : Type 0} → ℕ → ℕ → List A → List (List A)
rows_of zero n xs = []
rows_of (suc k) n xs = take n xs ∷ rows_of k n (drop n xs)

-- rows of n numbers, each with its lowest column
abbrev pub kept_of : {A : Type 0} → ℕ → List ℕ → List A → List (ℕ × List A)
kept_of n [] xs = []
kept_of n (j ∷ js) xs = (j, take n xs) ∷ kept_of n js (drop n xs)

-- what is kept and found so far: `used` rows of `size` numbers with their columns, and `found` balances of n weights
abbrev pub state_of : {A : Type 0} → (n size used found : ℕ) → List ℕ → List A → List A → State A
state_of n size used found leads rows balances = record { rows = kept_of size (take used leads) rows; balances = rows_of found n balances }

module _ (K : Kind) where
  -- the column of a row's lowest term, absent for a balance, and the row
  abbrev pub told : Option ℕ → List K.Num → Handled K.Num
  told (Some j) r = kept j r
  told None r = balance r

  -- whether a row of n weights that ends so is to be negated
  abbrev pub ends_below : ℕ → Option ℕ → List K.Num → Bool
  ends_below n (Some j) r = K.below (at K r (n + j))
  ends_below n None r = leads_below K n r
