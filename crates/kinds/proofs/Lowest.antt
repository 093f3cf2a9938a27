-- Looking at one column after another is handling by lowest terms.
use Rattle.std.proofs.Common.{◌≡◌, ℕ, zero, suc, ◌+◌, ◌-◌, ◌<◌, ◌≤◌, Bool, true, false, cond, eqb, List, [], ◌∷◌, ◌++◌, Some, None, Ok, Err, length, Option, sym, refl, ap, ◌∙◌, subst, take, arith}
use native.Mathlib.Decide.{ℕ_discrete}
use Rattle.std.specs.List.{AllByRecursion}
use Rattle.std.specs.Option.{option_map_or}
use Rattle.std.proofs.lemmas.List.{append_assoc, append-nil}
use Rattle.std.proofs.lemmas.Bool.{cond_both, cond-true, cond-false, eqb-true}
use Rattle.kinds.specs.Kinds.{Kind, Lawful}
use Rattle.kinds.specs.Elimination.{kept_under, Handled, kept, balance, passes, State, at, stepped, any_past, leads_below, negated_if, handled, added, starts, eliminated, eliminate}
use Rattle.kinds.specs.LowestTerms.{HasLowest, HasNoTerms, IsKeptRow, Arises, at_first, after_row, EndsInState, KeptByLowest, EndsWithoutTerms, ByLowestTerm, StepsAtLowest}
use Rattle.kinds.proofs.Ring.{found_nonzero, nonzero_found}
use Rattle.kinds.proofs.Handling.{signed_zero, signed_nonzero, signed_not_below}
use Rattle.kinds.proofs.Arrival.{steps_clear}
use Rattle.kinds.proofs.Columns.{passes_by, leads_at, goes_on, refuses, at_end}

up_to : (P : ℕ → Type 0) (j : ℕ) → ((i : ℕ) → i < j → P i) → P j → (i : ℕ) → i < j + 1 → P i
up_to P j h p i l = go (ℕ_discrete i j)
  where
    go : Dec (i ≡ j) → P i
    go (yes e) = subst P (sym e) p
    go (no ne) = h i (omega arith)

module _ {K : Kind} (L : Lawful K) (n m : ℕ) (rows : List (ℕ × List K.Num)) where
  open K use {Num as A, zero as 𝟘, is_zero, below}

  -- columns without a term are passed by
  passed : (r : List A) (d j : ℕ) → j + d ≤ m → ((i : ℕ) → i < j + d → at K r (n + i) ≡ 𝟘) → handled K n rows (m - j) j r ≡ handled K n rows (m - (j + d)) (j + d) r
  passed r zero j h z = let e : j ≡ j + 0 = omega arith in ap (λ k. handled K n rows (m - k) k r) e
  passed r (suc d) j h z =
      let e : j + 1 + d ≡ j + suc d = omega arith in
      passes_by K n m j (omega arith) rows r (ap is_zero (z j (omega arith)) ∙ L.zero_found)
      ∙ passed r d (j + 1) (omega arith) (λ i l. z i (omega arith))
      ∙ ap (λ k. handled K n rows (m - k) k r) e

  from_first : (r : List A) (j : ℕ) → j ≤ m → ((i : ℕ) → i < j → at K r (n + i) ≡ 𝟘) → handled K n rows m 0 r ≡ handled K n rows (m - j) j r
  from_first r j h z =
      let e : m ≡ m - 0 = omega arith in
      let f : 0 + j ≡ j = omega arith in
      ap (λ k. handled K n rows k 0 r) e ∙ passed r j 0 (omega arith) (λ i l. z i (omega arith)) ∙ ap (λ k. handled K n rows (m - k) k r) f

  -- after a step at column j the row is zero up to it
  after_step : (r s : List A) (j : ℕ) → ((i : ℕ) → i < j → at K r (n + i) ≡ 𝟘) → HasLowest K n j s → (i : ℕ) → i < j + 1 → at K (stepped K (at K r (n + j)) (at K s (n + j)) r s) (n + i) ≡ 𝟘
  after_step r s j z h =
      let c = steps_clear L r s (n + j) h.nonzero in
      up_to (λ i. at K (stepped K (at K r (n + j)) (at K s (n + j)) r s) (n + i) ≡ 𝟘) j (λ i l. c.1 (n + i) (z i l) (h.zeros_before i l)) c.0

  -- a kept row that is found is one of them
  found_kept : (P : ℕ → List A → Type 0) (rows : List (ℕ × List A)) → AllByRecursion (λ x. P x.0 x.1) rows → (j : ℕ) (s : List A) → kept_under rows j ≡ Some s → P j s
  found_kept P [] all j s e = absurd (let z : ◌≡◌ {A = ℕ} 0 1 = cc in omega arith)
  found_kept P (x ∷ xs) all j s e = go (eqb x.0 j) refl (found_kept P xs all.1 j s)
    where
      go : (b : Bool) → eqb x.0 j ≡ b → (kept_under xs j ≡ Some s → P j s) → P j s
      go true f ih =
          let g : ◌≡◌ {A = Option (List A)} (Some x.1) (Some s) = sym (cond-true (eqb x.0 j) (Some x.1) (kept_under xs j) f) ∙ e in
          let h : x.1 ≡ s = cc in
          subst (λ k. P k s) (eqb-true x.0 j f) (subst (P x.0) h all.0)
      go false f ih = ih (sym (cond-false (eqb x.0 j) (Some x.1) (kept_under xs j) f) ∙ e)

  -- what a handled row is
  abbrev Told : Handled A → Type 0
  Told (kept j q) = IsKeptRow K n m j q
  Told (balance q) = HasNoTerms K n m q
  Told passes = Unit {0}

  module _ (all : AllByRecursion (λ x. IsKeptRow K n m x.0 x.1) rows) where
    told : (columns j : ℕ) (r : List A) → columns + j ≡ m → ((i : ℕ) → i < j → at K r (n + i) ≡ 𝟘) → Told (handled K n rows columns j r)
    unfolding handled
    told zero j r e z = λ i l. signed_zero L (leads_below K n r) r (n + i) (z i (omega arith))
    told (suc columns) j r e z = go (λ q h. told columns (suc j) q (omega arith) h)
      where
        up : (q : List A) → ((i : ℕ) → i < j + 1 → at K q (n + i) ≡ 𝟘) → (i : ℕ) → i < suc j → at K q (n + i) ≡ 𝟘
        up q h i l = h i (omega arith)

        by_option : ((q : List A) → ((i : ℕ) → i < suc j → at K q (n + i) ≡ 𝟘) → Told (handled K n rows columns (suc j) q)) → is_zero (at K r (n + j)) ≡ false → (o : Option (List A)) → kept_under rows j ≡ o
            → Told (option_map_or (λ s. cond (any_past K (stepped K (at K r (n + j)) (at K s (n + j)) r s)) passes (handled K n rows columns (suc j) (stepped K (at K r (n + j)) (at K s (n + j)) r s))) o (kept j (negated_if K (below (at K r (n + j))) r)))
        by_option ih nz None f = record {
          inside = omega arith;
          lowest = record {
            nonzero = signed_nonzero L (below (at K r (n + j))) r (n + j) (found_nonzero L (at K r (n + j)) nz);
            zeros_before = λ i l. signed_zero L (below (at K r (n + j))) r (n + i) (z i l);
          };
          not_below = signed_not_below L r (n + j);
        }
        by_option ih nz (Some s) f =
            let k : IsKeptRow K n m j s = found_kept (IsKeptRow K n m) rows all j s f in
            cond_both (any_past K (stepped K (at K r (n + j)) (at K s (n + j)) r s)) passes (handled K n rows columns (suc j) (stepped K (at K r (n + j)) (at K s (n + j)) r s)) Told
            (λ _. tt) (λ _. ih (stepped K (at K r (n + j)) (at K s (n + j)) r s) (up _ (after_step r s j z k.lowest)))

        go : ((q : List A) → ((i : ℕ) → i < suc j → at K q (n + i) ≡ 𝟘) → Told (handled K n rows columns (suc j) q)) → Told (handled K n rows (suc columns) j r)
        go ih =
            cond_both (is_zero (at K r (n + j))) (handled K n rows columns (suc j) r)
            (option_map_or (λ s. cond (any_past K (stepped K (at K r (n + j)) (at K s (n + j)) r s)) passes (handled K n rows columns (suc j) (stepped K (at K r (n + j)) (at K s (n + j)) r s))) (kept_under rows j) (kept j (negated_if K (below (at K r (n + j))) r)))
            Told (λ e. ih r (up r (up_to (λ i. at K r (n + i) ≡ 𝟘) j z (L.found_zero (at K r (n + j)) e)))) (λ nz. by_option ih nz (kept_under rows j) refl)

    by_lowest : ByLowestTerm K n m rows
    by_lowest = record {
      steps = λ r s j l h f. (the_kept j s f, step_on r s j l h f (any_past K (stepped K (at K r (n + j)) (at K s (n + j)) r s)) refl);
      keeps = λ r j l h f. from_first r j (omega arith) h.zeros_before ∙ leads_at K n m j l rows r (nonzero_found L (at K r (n + j)) h.nonzero) f;
      ends = λ r h. from_first r m (omega arith) h ∙ at_end K n m m (omega arith) rows r;
    }
      where
        the_kept : (j : ℕ) (s : List A) → kept_under rows j ≡ Some s → HasLowest K n j s
        the_kept j s f = (found_kept (IsKeptRow K n m) rows all j s f).lowest

        step_on : (r s : List A) (j : ℕ) → j < m → HasLowest K n j r → kept_under rows j ≡ Some s → (b : Bool) → any_past K (stepped K (at K r (n + j)) (at K s (n + j)) r s) ≡ b
            → handled K n rows m 0 r ≡ cond (any_past K (stepped K (at K r (n + j)) (at K s (n + j)) r s)) passes (handled K n rows m 0 (stepped K (at K r (n + j)) (at K s (n + j)) r s))
        step_on r s j l h f true e =
            from_first r j (omega arith) h.zeros_before ∙ refuses K n m j l rows r s (nonzero_found L (at K r (n + j)) h.nonzero) f e
            ∙ sym (cond-true (any_past K (stepped K (at K r (n + j)) (at K s (n + j)) r s)) passes (handled K n rows m 0 (stepped K (at K r (n + j)) (at K s (n + j)) r s)) e)
        step_on r s j l h f false e =
            let q = stepped K (at K r (n + j)) (at K s (n + j)) r s in
            from_first r j (omega arith) h.zeros_before ∙ goes_on K n m j l rows r s (nonzero_found L (at K r (n + j)) h.nonzero) f e
            ∙ sym (from_first q (j + 1) (omega arith) (after_step r s j h.zeros_before (the_kept j s f)))
            ∙ sym (cond-false (any_past K q) passes (handled K n rows m 0 q) e)

-- ---- the states that arise
module _ {K : Kind} (L : Lawful K) where
  open K use {Num as A, zero as 𝟘}

  all_push : (P : ℕ × List A → Type 0) (xs : List (ℕ × List A)) (x : ℕ × List A) → AllByRecursion P xs → P x → AllByRecursion P (xs ++ x ∷ [])
  all_push P [] x all p = (p, tt)
  all_push P (y ∷ xs) x all p = (all.0, all_push P xs x all.1 p)

  abbrev AllKept : (n m : ℕ) → State A → Type 0
  AllKept n m s = AllByRecursion (λ x. IsKeptRow K n m x.0 x.1) s.rows

  pub kept_by_lowest : KeptByLowest K
  kept_by_lowest n m _ _ at_first = tt
  kept_by_lowest n m _ t (after_row {rs} {s} r a p e) = go (kept_by_lowest n m rs s a) (handled K n s.rows m 0 r) (told L n m s.rows (kept_by_lowest n m rs s a) m 0 r (omega arith) (λ i l. absurd (omega arith))) e
    where
      go : AllKept n m s → (h : Handled A) → Told L n m s.rows h → added K n s h ≡ Some t → AllKept n m t
      go all (kept j q) k e =
          let f : ◌≡◌ {A = State A} (record { rows = s.rows ++ (j, q) ∷ []; balances = s.balances }) t = cc in
          subst (AllKept n m) f (all_push (λ x. IsKeptRow K n m x.0 x.1) s.rows (j, q) all k)
      go all (balance q) k e =
          let f : ◌≡◌ {A = State A} (record { rows = s.rows; balances = s.balances ++ take n q ∷ [] }) t = cc in
          subst (AllKept n m) f all
      go all passes k e = absurd (let z : ◌≡◌ {A = ℕ} 0 1 = cc in omega arith)

  pub ends_without_terms : EndsWithoutTerms K
  ends_without_terms n m rs s a r q e =
      subst (Told L n m s.rows) e (told L n m s.rows (kept_by_lowest n m rs s a) m 0 r (omega arith) (λ i l. absurd (omega arith)))

  pub steps_at_lowest : StepsAtLowest K
  steps_at_lowest n m rs s a = by_lowest L n m s.rows (kept_by_lowest n m rs s a)

  -- the rows rs, after those that are done: the state that arises from all of them
  abbrev EndsFrom : (n m : ℕ) → List (List A) → List (List A) → Type 0
  EndsFrom n m rs ws = (t : State A) × Arises K n m rs t × (ws ≡ t.balances)

  ends_from : (n m : ℕ) (done rs : List (List A)) (b : ℕ) (s : State A) (ws : List (List A)) → Arises K n m done s → eliminated K n m s b rs ≡ Ok ws → EndsFrom n m (done ++ rs) ws
  unfolding eliminated
  ends_from n m done [] b s ws a e =
      let f : s.balances ≡ ws = cc in
      subst (λ rs. EndsFrom n m rs ws) (sym (append-nil done)) (s, a, sym f)
  ends_from n m done (r ∷ rs) b s ws a e =
      subst (λ xs. EndsFrom n m xs ws) (append_assoc done (r ∷ []) rs)
      (go (any_past K r) refl (added K n s (handled K n s.rows m 0 r)) refl (λ t k. ends_from n m (done ++ r ∷ []) rs (suc b) t ws k) e)
    where
      go : (past : Bool) → any_past K r ≡ past → (o : Option (State A)) → added K n s (handled K n s.rows m 0 r) ≡ o
          → ((t : State A) → Arises K n m (done ++ r ∷ []) t → eliminated K n m t (suc b) rs ≡ Ok ws → EndsFrom n m ((done ++ r ∷ []) ++ rs) ws)
          → cond past (Err b) (option_map_or (λ more. eliminated K n m more (suc b) rs) o (Err b)) ≡ Ok ws → EndsFrom n m ((done ++ r ∷ []) ++ rs) ws
      go true p o f ih e = absurd (let z : ◌≡◌ {A = ℕ} 0 1 = cc in omega arith)
      go false p None f ih e = absurd (let z : ◌≡◌ {A = ℕ} 0 1 = cc in omega arith)
      go false p (Some t) f ih e = ih t (after_row r a p f) e

  pub ends_in_state : EndsInState K
  unfolding eliminate
  ends_in_state m fs ws e = ends_from (length fs) m [] (starts K (length fs) 0 fs) 0 _ ws at_first e
