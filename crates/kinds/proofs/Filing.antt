-- Elimination with the kept rows filed by their lowest columns: the row at place j is the one whose lowest column is j, or empty.
use Rattle.std.proofs.Common.{ℕ, zero, suc, ◌+◌, cond, List, [], ◌∷◌, length, get_or, take, Ok, Err, Result}
use Rattle.kinds.specs.Kinds.{Kind}
use Rattle.kinds.specs.Elimination.{at, stepped, any_past, leads_below, negated_if, starts, Handled, kept, balance, passes}

-- filing r under j
abbrev pub put : {A : Type 0} → List (List A) → ℕ → List A → List (List A)
put [] zero r = r ∷ []
put [] (suc j) r = [] ∷ put [] j r
put (s ∷ ss) zero r = r ∷ ss
put (s ∷ ss) (suc j) r = s ∷ put ss j r

abbrev pub with_balance : {A : Type 0} → List A → Result (List (List A)) ℕ → Result (List (List A)) ℕ
with_balance w (Ok ws) = Ok (w ∷ ws)
with_balance w (Err b) = Err b

abbrev pub by_case : {A B : Type 0} → (ℕ → List A → B) → (List A → B) → B → Handled A → B
by_case f g x (kept j q) = f j q
by_case f g x (balance q) = g q
by_case f g x passes = x

module _ (K : Kind) where
  open K use {Num as A, is_zero, below}

  unfoldable pub filed_handled : ℕ → List (List A) → ℕ → ℕ → List A → Handled A
  filed_handled n rows zero j r = balance (negated_if K (leads_below K n r) r)
  filed_handled n rows (suc columns) j r =
      let c = at K r (n + j) in
      let s = get_or rows j [] in
      let p = at K s (n + j) in
      let q = stepped K c p r s in
      let next = filed_handled n rows columns (suc j) r in
      let on = filed_handled n rows columns (suc j) q in
      cond (is_zero c) next (cond (is_zero p) (kept j (negated_if K (below c) r)) (cond (any_past K q) passes on))

  unfoldable pub filed_eliminated : ℕ → ℕ → List (List A) → ℕ → List (List A) → Result (List (List A)) ℕ
  filed_eliminated n m rows b [] = Ok []
  filed_eliminated n m rows b (r ∷ rs) =
      let go : Result (List (List A)) ℕ = by_case
      (λ j q. filed_eliminated n m (put rows j q) (suc b) rs)
      (λ q. with_balance (take n q) (filed_eliminated n m rows (suc b) rs))
      (Err b)
      (filed_handled n rows m 0 r) in
      cond (any_past K r) (Err b) go

  unfoldable pub filed_eliminate : ℕ → List (List A) → Result (List (List A)) ℕ
  filed_eliminate m fs = filed_eliminated (length fs) m [] 0 (starts K (length fs) 0 fs)
