-- Elimination by the rows' lowest terms, in words that do not look at one column after another. Assumes nothing.
use Rattle.std.specs.Prelude.{◌≡◌, ℕ, ◌+◌, ◌<◌, false, ◌≢◌, if◌then◌else◌, List, [], ◌∷◌, ◌++◌, length, Some, None, Ok}
use Rattle.std.specs.List.{AllByRecursion}
use Rattle.kinds.specs.Kinds.{Kind}
use Rattle.kinds.specs.Elimination.{kept_under, kept, balance, passes, State, at, stepped, any_past, leads_below, negated_if, handled, added, starts, eliminate}

-- the lowest term of a row of n weights is in column j
pub record HasLowest (K : Kind) (n j : ℕ) (r : List K.Num) : Type 0 where
  pub nonzero : at K r (n + j) ≢ K.zero
  pub zeros_before : (i : ℕ) → i < j → at K r (n + i) ≡ K.zero

-- a row of n weights has no terms in m columns
abbrev pub HasNoTerms : (K : Kind) → ℕ → ℕ → List K.Num → Type 0
HasNoTerms K n m r = (j : ℕ) → j < m → at K r (n + j) ≡ K.zero

-- a row that may be kept under column j of m: its lowest term is there, above zero
pub record IsKeptRow (K : Kind) (n m j : ℕ) (r : List K.Num) : Type 0 where
  pub inside : j < m
  pub lowest : HasLowest K n j r
  pub not_below : K.below (at K r (n + j)) ≡ false

-- the states of elimination over rows of n weights and m columns, by the rows handled: nothing at first, and then one row after
-- another, each within the limit
pub data Arises (K : Kind) (n m : ℕ) : List (List K.Num) → State K.Num → Type 0 where
  at_first : Arises K n m [] (record { rows = []; balances = [] })
  after_row :
      {rs : List (List K.Num)} {s t : State K.Num} (r : List K.Num)
      → Arises K n m rs s → any_past K r ≡ false → added K n s (handled K n s.rows m 0 r) ≡ Some t
      → Arises K n m (rs ++ r ∷ []) t

-- what elimination answers are the balances of the state that arises from the starting rows, in order
abbrev pub EndsInState : Kind → Type 0
EndsInState K =
    (m : ℕ) (fs ws : List (List K.Num)) → eliminate K m fs ≡ Ok ws
    → (s : State K.Num) × Arises K (length fs) m (starts K (length fs) 0 fs) s × (ws ≡ s.balances)

-- a kept row has its column as its lowest term, with a coefficient above zero
abbrev pub KeptByLowest : Kind → Type 0
KeptByLowest K =
    (n m : ℕ) (rs : List (List K.Num)) (s : State K.Num) → Arises K n m rs s
    → AllByRecursion (λ x. IsKeptRow K n m x.0 x.1) s.rows

-- a row becomes a balance only without terms
abbrev pub EndsWithoutTerms : Kind → Type 0
EndsWithoutTerms K =
    (n m : ℕ) (rs : List (List K.Num)) (s : State K.Num) → Arises K n m rs s
    → (r q : List K.Num) → handled K n s.rows m 0 r ≡ balance q → HasNoTerms K n m q

-- what becomes of a row against kept rows, by its lowest term alone
pub record ByLowestTerm (K : Kind) (n m : ℕ) (rows : List (ℕ × List K.Num)) : Type 0 where
  -- a kept row has the same lowest term: a step against it takes that term, and so on
  pub steps :
      (r s : List K.Num) (j : ℕ) → j < m → HasLowest K n j r → kept_under rows j ≡ Some s
      → HasLowest K n j s
      × (handled K n rows m 0 r ≡ (let q = stepped K (at K r (n + j)) (at K s (n + j)) r s in
      if any_past K q then passes else handled K n rows m 0 q))
  -- no kept row has it: the row is kept under it, negated when it is below zero there
  pub keeps :
      (r : List K.Num) (j : ℕ) → j < m → HasLowest K n j r → kept_under rows j ≡ None
      → handled K n rows m 0 r ≡ kept j (negated_if K (K.below (at K r (n + j))) r)
  -- the row has no terms: it is a balance, negated when its first nonzero weight is below zero
  pub ends :
      (r : List K.Num) → HasNoTerms K n m r
      → handled K n rows m 0 r ≡ balance (negated_if K (leads_below K n r) r)

-- each row is handled by its lowest term, against the rows kept so far
abbrev pub StepsAtLowest : Kind → Type 0
StepsAtLowest K =
    (n m : ℕ) (rs : List (List K.Num)) (s : State K.Num) → Arises K n m rs s
    → ByLowestTerm K n m s.rows
