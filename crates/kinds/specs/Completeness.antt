-- What elimination gives, in words that do not name its steps. Assumes nothing.
use Rattle.std.specs.Prelude.{◌≡◌, ℕ, zero, suc, ◌<◌, ◌≤◌, false, ◌≢◌, ◌↔◌, List, [], ◌∷◌, length, Ok}
use Rattle.std.specs.List.{AllByRecursion}
use Rattle.kinds.specs.Kinds.{Kind}
use Rattle.kinds.specs.Elimination.{at, stepped, any_past, eliminate}

-- at place i, the sum of the rows, the first times w 0, the next times w 1, and so on
abbrev pub comb : (K : Kind) → (ℕ → K.Num) → List (List K.Num) → ℕ → K.Num
comb K w [] i = K.zero
comb K w (r ∷ rs) i = K.add (K.mul (w zero) (at K r i)) (comb K (λ j. w (suc j)) rs i)

-- a weighting w of rows with the coefficients fs comes to zero in each of the m columns
abbrev pub Vanishes : (K : Kind) → ℕ → List (List K.Num) → (ℕ → K.Num) → Type 0
Vanishes K m fs w = (j : ℕ) → j < m → comb K w fs j ≡ K.zero

-- a nonzero multiple of the weighting w is a sum of multiples of the weightings ws, on the first n rows
pub record Made (K : Kind) (n : ℕ) (ws : List (List K.Num)) (w : ℕ → K.Num) : Type 0 where
  pub factor : K.Num
  pub nonzero : factor ≢ K.zero
  pub multiples : ℕ → K.Num
  pub sum : (b : ℕ) → b < n → K.mul factor (w b) ≡ comb K multiples ws b

-- each balance comes to zero in every column
abbrev pub Sound : Kind → Type 0
Sound K =
    (m : ℕ) (fs ws : List (List K.Num)) → eliminate K m fs ≡ Ok ws
    → AllByRecursion (λ w. Vanishes K m fs (at K w)) ws

-- a weighting comes to zero in every column exactly when a nonzero multiple of it is a sum of multiples of the balances
abbrev pub Exactly : Kind → Type 0
Exactly K =
    (m : ℕ) (fs ws : List (List K.Num)) → eliminate K m fs ≡ Ok ws
    → (w : ℕ → K.Num) → Vanishes K m fs w ↔ Made K (length fs) ws w

-- the balances are no more than the rows, and have a weight for each row, within the limit
abbrev pub Shaped : Kind → Type 0
Shaped K =
    (m : ℕ) (fs ws : List (List K.Num)) → AllByRecursion (λ f. length f ≡ m) fs → eliminate K m fs ≡ Ok ws
    → AllByRecursion (λ w. (length w ≡ length fs) × (any_past K w ≡ false)) ws × (length ws ≤ length fs)

-- the first nonzero number of w is above zero: it is not zero, not below zero, and all before it are zero
pub record LeadsAbove (K : Kind) (w : List K.Num) : Type 0 where
  pub first : ℕ
  pub nonzero : at K w first ≢ K.zero
  pub not_below : K.below (at K w first) ≡ false
  pub zeros_before : (i : ℕ) → i < first → at K w i ≡ K.zero

-- the first nonzero weight of each balance is above zero
abbrev pub Signed : Kind → Type 0
Signed K =
    (m : ℕ) (fs ws : List (List K.Num)) → eliminate K m fs ≡ Ok ws
    → AllByRecursion (LeadsAbove K) ws

-- a step against a kept row that is not zero at place i leaves zero there, and leaves zero where both rows are zero:
-- so a step makes the row's lowest term higher, and to look at the columns upwards is to look for the lowest term again
abbrev pub StepsClear : Kind → Type 0
StepsClear K =
    (r s : List K.Num) (i : ℕ) → at K s i ≢ K.zero
    → (at K (stepped K (at K r i) (at K s i) r s) i ≡ K.zero)
    × ((k : ℕ) → at K r k ≡ K.zero → at K s k ≡ K.zero → at K (stepped K (at K r i) (at K s i) r s) k ≡ K.zero)
