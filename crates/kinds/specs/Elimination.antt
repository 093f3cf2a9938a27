-- Elimination (Gaussian, without fractions) over any kind of number. A row is one list: its n weights, one for each row,
-- then its coefficients, one for each column. Assumes nothing.
use Rattle.std.specs.Prelude.{ℕ, zero, suc, ◌+◌, Bool, true, false, cond, List, [], ◌∷◌, ◌++◌, map, length, take, replicate, Some, None, Ok, Err, Option, Result, ◌==◌, slice_index_or, slice_set}
use Rattle.std.specs.List.{fold, list_any}
use Rattle.std.specs.Option.{option_map_or}
use Rattle.kinds.specs.Kinds.{Kind, past}

-- of kept rows, each with the column of its lowest term: the first whose column is j
abbrev pub kept_under : {A : Type 0} → List (ℕ × List A) → ℕ → Option (List A)
kept_under [] j = None
kept_under (x ∷ xs) j = cond (x.0 == j) (Some x.1) (kept_under xs j)

-- what becomes of a row: kept under the column of its lowest term, a balance, or past the limit
pub data Handled (A : Type 0) : Type 0 where
  kept : ℕ → List A → Handled A
  balance : List A → Handled A
  passes : Handled A

-- the kept rows, and the weights of the balances, so far
pub record State (A : Type 0) : Type 0 where
  pub rows : List (ℕ × List A)
  pub balances : List (List A)

module _ (K : Kind) where
  open K use {Num, one, add, mul, neg, is_zero, divisor, quotient, below}

  -- the number of a row at place i, zero past its end
  abbrev pub at : List Num → ℕ → Num
  at r i = slice_index_or r i K.zero

  -- a times one row less c times another
  abbrev pub less : Num → List Num → Num → List Num → List Num
  less a [] c ys = map (λ y. neg (mul c y)) ys
  less a (x ∷ xs) c [] = mul a x ∷ less a xs c []
  less a (x ∷ xs) c (y ∷ ys) = add (mul a x) (neg (mul c y)) ∷ less a xs c ys

  -- the divisor of d and all the numbers of a row
  abbrev pub divisor_from : Num → List Num → Num
  divisor_from = fold divisor

  -- a row over d
  abbrev pub over : Num → List Num → List Num
  over d r = map (λ x. quotient x d) r

  -- a row over the divisor of all its numbers, weights and coefficients alike
  abbrev pub divided : List Num → List Num
  divided r = over (divisor_from K.zero r) r

  -- one step: the row r has c where the kept row s has p; p/g times the row less c/g times the kept row, then divided
  abbrev pub stepped : Num → Num → List Num → List Num → List Num
  stepped c p r s = let g = divisor c p in divided (less (quotient p g) r (quotient c g) s)

  -- whether a number of a row is past the limit
  abbrev pub any_past : List Num → Bool
  any_past = list_any (past K)

  -- whether the first nonzero of the first n numbers is below zero
  abbrev pub leads_below : ℕ → List Num → Bool
  leads_below zero r = false
  leads_below (suc n) [] = false
  leads_below (suc n) (x ∷ xs) = let rest = leads_below n xs in cond (is_zero x) rest (below x)

  abbrev pub negated_if : Bool → List Num → List Num
  negated_if true r = map neg r
  negated_if false r = r

  -- a row against the kept rows, at the columns from j on, of which there are the given number: its lowest term is in the
  -- first column where it is not zero, a step makes it zero there, and a row without terms is a balance
  unfoldable pub handled : ℕ → List (ℕ × List Num) → ℕ → ℕ → List Num → Handled Num
  handled n rows zero j r = balance (negated_if (leads_below n r) r)
  handled n rows (suc columns) j r =
      let c = at r (n + j) in
      let next = handled n rows columns (suc j) r in
      let against : List Num → Handled Num = λ s. let q = stepped c (at s (n + j)) r s in cond (any_past q) passes (handled n rows columns (suc j) q) in
      cond (is_zero c) next (option_map_or against (kept_under rows j) (kept j (negated_if (below c) r)))

  -- a handled row is kept, or its n weights are a balance; or it is refused
  abbrev pub added : ℕ → State Num → Handled Num → Option (State Num)
  added n s (kept j q) = Some (record { rows = s.rows ++ (j, q) ∷ []; balances = s.balances })
  added n s (balance q) = Some (record { rows = s.rows; balances = s.balances ++ take n q ∷ [] })
  added n s passes = None

  -- the rows from number b on, in order, after what is kept and found so far; m columns. A row past the limit is named
  unfoldable pub eliminated : ℕ → ℕ → State Num → ℕ → List (List Num) → Result (List (List Num)) ℕ
  eliminated n m s b [] = Ok s.balances
  eliminated n m s b (r ∷ rs) =
      let go = option_map_or (λ more. eliminated n m more (suc b) rs) (added n s (handled n s.rows m 0 r)) (Err b) in
      cond (any_past r) (Err b) go

  -- n weights: 1 at place b, 0 elsewhere
  abbrev pub unit : ℕ → ℕ → List Num
  unit n b = slice_set (replicate n K.zero) b one

  -- the starting rows from number b on, with the coefficients fs
  abbrev pub starts : ℕ → ℕ → List (List Num) → List (List Num)
  starts n b [] = []
  starts n b (f ∷ fs) = (unit n b ++ f) ∷ starts n (suc b) fs

  -- the weights of the balances of rows of m coefficients each, or the number of a row past the limit
  unfoldable pub eliminate : ℕ → List (List Num) → Result (List (List Num)) ℕ
  eliminate m fs = eliminated (length fs) m (record { rows = []; balances = [] }) 0 (starts (length fs) 0 fs)
