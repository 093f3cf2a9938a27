-- One row against kept rows, a column at a time.
use Rattle.std.proofs.Common.{◌≡◌, ℕ, suc, ◌+◌, ◌-◌, ◌<◌, ◌≤◌, true, false, cond, List, Some, None, ap, ◌∙◌, arith}
use Rattle.std.specs.Option.{option_map_or}
use Rattle.kinds.specs.Kinds.{Kind}
use Rattle.kinds.specs.Elimination.{kept_under, at, stepped, any_past, leads_below, negated_if, Handled, kept, balance, passes, handled}

module _ (K : Kind) (n m j : ℕ) (lt : j < m) (rows : List (ℕ × List K.Num)) (r : List K.Num) where
  -- the step against s, and what follows a row at the next column
  abbrev by_step : List K.Num → List K.Num
  by_step s = stepped K (at K r (n + j)) (at K s (n + j)) r s

  abbrev next : ℕ → List K.Num → Handled K.Num
  next k q = handled K n rows (m - (j + 1)) k q

  opened : handled K n rows (m - j) j r ≡ cond (K.is_zero (at K r (n + j))) (next (j + 1) r) (option_map_or (λ s. cond (any_past K (by_step s)) passes (next (j + 1) (by_step s))) (kept_under rows j) (kept j (negated_if K (K.below (at K r (n + j))) r)))
  unfolding handled
  opened =
      let e : m - j ≡ suc (m - (j + 1)) = omega arith in
      let f : suc j ≡ j + 1 = omega arith in
      ap (λ k. handled K n rows k j r) e
      ∙ ap (λ k. cond (K.is_zero (at K r (n + j))) (next k r) (option_map_or (λ s. cond (any_past K (by_step s)) passes (next k (by_step s))) (kept_under rows j) (kept j (negated_if K (K.below (at K r (n + j))) r)))) f

  pub passes_by : K.is_zero (at K r (n + j)) ≡ true → handled K n rows (m - j) j r ≡ next (j + 1) r
  passes_by z = opened ∙ simp z

  pub leads_at : K.is_zero (at K r (n + j)) ≡ false → kept_under rows j ≡ None → handled K n rows (m - j) j r ≡ kept j (negated_if K (K.below (at K r (n + j))) r)
  leads_at z f = opened ∙ simp (z, f)

  pub goes_on : (s : List K.Num) → K.is_zero (at K r (n + j)) ≡ false → kept_under rows j ≡ Some s → any_past K (by_step s) ≡ false → handled K n rows (m - j) j r ≡ next (j + 1) (by_step s)
  goes_on s z f w = opened ∙ simp (z, f, w)

  pub refuses : (s : List K.Num) → K.is_zero (at K r (n + j)) ≡ false → kept_under rows j ≡ Some s → any_past K (by_step s) ≡ true → handled K n rows (m - j) j r ≡ passes
  refuses s z f w = opened ∙ simp (z, f, w)

-- the end of the columns
pub at_end : (K : Kind) (n m j : ℕ) → m ≤ j → (rows : List (ℕ × List K.Num)) (r : List K.Num) → handled K n rows (m - j) j r ≡ balance (negated_if K (leads_below K n r) r)
unfolding handled
at_end K n m j h rows r = let e : m - j ≡ 0 = omega arith in ap (λ k. handled K n rows k j r) e
