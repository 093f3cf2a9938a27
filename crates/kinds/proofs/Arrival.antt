-- Kept rows in order of arrival and kept rows filed by column answer alike; so what holds of the filed form holds of elimination.
use Rattle.std.proofs.Common.{◌≡◌, ℕ, zero, suc, ◌+◌, Bool, true, false, cond, eqb, ◌≢◌, List, [], ◌∷◌, ◌++◌, length, get_or, take, Some, None, Ok, Err, Option, Result, sym, refl, ap, ◌∙◌, subst, ap₂, true≢false}
use native.Mathlib.Decide.{ℕ_discrete}
use Rattle.std.proofs.lemmas.Bool.{cond_both, cond-true, cond-false, eq-eqb, ne_eqb}
use Rattle.std.proofs.lemmas.List.{append_assoc, append-nil}
use Rattle.std.specs.Option.{option_map_or, is_none}
use Rattle.kinds.specs.Kinds.{Kind, Lawful}
use Rattle.kinds.specs.Elimination.{kept_under, at, starts, Handled, kept, balance, passes, any_past, stepped, negated_if, handled, added, eliminated, eliminate}
use Rattle.kinds.specs.Completeness.{Sound, Exactly, Shaped, Signed, StepsClear}
use Rattle.kinds.proofs.Filing.{put, with_balance, by_case, filed_handled, filed_eliminated, filed_eliminate}
use Rattle.kinds.proofs.Ring.{found_nonzero, nonzero_found, mul_zero}
use Rattle.kinds.proofs.Handling.{signed_nonzero}
use Rattle.kinds.proofs.Filed.{put_same, put_other}
use Rattle.kinds.proofs.Division.{step, step_clears}
use Rattle.kinds.proofs.Finding.{filed_sound, filed_exactly, filed_signed}
use Rattle.kinds.proofs.Shape.{filed_shaped}

-- one row more at the end
found_new : {A : Type 0} (rows : List (ℕ × List A)) (j : ℕ) (q : List A) → kept_under rows j ≡ None → kept_under (rows ++ ((j, q) ∷ [])) j ≡ Some q
found_new [] j q e = cond-true (eqb j j) (Some q) None (eq-eqb j j refl)
found_new (x ∷ rows) j q e = go (eqb x.0 j) refl (found_new rows j q)
  where
    go : (b : Bool) → eqb x.0 j ≡ b → (kept_under rows j ≡ None → kept_under (rows ++ ((j, q) ∷ [])) j ≡ Some q) → kept_under (x ∷ (rows ++ ((j, q) ∷ []))) j ≡ Some q
    go true f ih = absurd (true≢false (sym (ap is_none (sym (cond-true (eqb x.0 j) (Some x.1) (kept_under rows j) f) ∙ e))))
    go false f ih = cond-false (eqb x.0 j) (Some x.1) (kept_under (rows ++ ((j, q) ∷ [])) j) f ∙ ih (sym (cond-false (eqb x.0 j) (Some x.1) (kept_under rows j) f) ∙ e)

found_other : {A : Type 0} (rows : List (ℕ × List A)) (j k : ℕ) (q : List A) → k ≢ j → kept_under (rows ++ ((j, q) ∷ [])) k ≡ kept_under rows k
found_other [] j k q h = cond-false (eqb j k) (Some q) None (ne_eqb j k (λ e. h (sym e)))
found_other (x ∷ rows) j k q h = ap (λ o. cond (eqb x.0 k) (Some x.1) o) (found_other rows j k q h)

module _ {K : Kind} (L : Lawful K) where
  open K use {Num as A, zero as 𝟘, is_zero, neg as ⊖◌, below}

  infix 8 ⊖◌
  -- what is found under j, and what is filed there
  abbrev Match : ℕ → ℕ → Option (List A) → List A → Type 0
  Match n j None s = s ≡ []
  Match n j (Some u) s = (s ≡ u) × (at K u (n + j) ≢ 𝟘)

  abbrev Matches : ℕ → List (List A) → List (ℕ × List A) → Type 0
  Matches n filed rows = (j : ℕ) → Match n j (kept_under rows j) (get_or filed j [])

  inner : (n j : ℕ) (c : A) (r : List A) (X : Handled A) (f g : List A → Handled A) → ((q : List A) → f q ≡ g q) → (o : Option (List A)) (s : List A) → Match n j o s
      → cond (is_zero (at K s (n + j))) X (cond (any_past K (stepped K c (at K s (n + j)) r s)) passes (f (stepped K c (at K s (n + j)) r s)))
      ≡ option_map_or (λ u. cond (any_past K (stepped K c (at K u (n + j)) r u)) passes (g (stepped K c (at K u (n + j)) r u))) o X
  inner n j c r X f g h None s m =
      cond-true (is_zero (at K s (n + j))) X (cond (any_past K (stepped K c (at K s (n + j)) r s)) passes (f (stepped K c (at K s (n + j)) r s)))
      (ap (λ u. is_zero (at K u (n + j))) m ∙ L.zero_found)
  inner n j c r X f g h (Some u) s m =
      subst (λ v. cond (is_zero (at K v (n + j))) X (cond (any_past K (stepped K c (at K v (n + j)) r v)) passes (f (stepped K c (at K v (n + j)) r v))) ≡ cond (any_past K (stepped K c (at K u (n + j)) r u)) passes (g (stepped K c (at K u (n + j)) r u)))
      (sym m.0)
      (cond-false (is_zero (at K u (n + j))) X (cond (any_past K (stepped K c (at K u (n + j)) r u)) passes (f (stepped K c (at K u (n + j)) r u))) (nonzero_found L (at K u (n + j)) m.1)
      ∙ ap (λ y. cond (any_past K (stepped K c (at K u (n + j)) r u)) passes y) (h (stepped K c (at K u (n + j)) r u)))

  same_row : (n : ℕ) (filed : List (List A)) (rows : List (ℕ × List A)) → Matches n filed rows → (columns j : ℕ) (r : List A) → filed_handled K n filed columns j r ≡ handled K n rows columns j r
  unfolding filed_handled handled
  same_row n filed rows m zero j r = refl
  same_row n filed rows m (suc columns) j r =
      let ih : (q : List A) → filed_handled K n filed columns (suc j) q ≡ handled K n rows columns (suc j) q = λ q. same_row n filed rows m columns (suc j) q in
      ap₂ (λ x y. cond (is_zero (at K r (n + j))) x y) (ih r)
      (inner n j (at K r (n + j)) r (kept j (negated_if K (below (at K r (n + j))) r)) (filed_handled K n filed columns (suc j)) (handled K n rows columns (suc j)) ih (kept_under rows j) (get_or filed j []) (m j))

  -- a row is kept where none was, with a number that is not zero
  abbrev Good : ℕ → List (ℕ × List A) → Handled A → Type 0
  Good n rows (kept j q) = (kept_under rows j ≡ None) × (at K q (n + j) ≢ 𝟘)
  Good n rows (balance q) = Unit {0}
  Good n rows passes = Unit {0}

  good : (n : ℕ) (rows : List (ℕ × List A)) (columns j : ℕ) (r : List A) → Good n rows (handled K n rows columns j r)
  unfolding handled
  good n rows zero j r = tt
  good n rows (suc columns) j r = go (λ q. good n rows columns (suc j) q)
    where
      by_option : ((q : List A) → Good n rows (handled K n rows columns (suc j) q)) → is_zero (at K r (n + j)) ≡ false → (o : Option (List A)) → kept_under rows j ≡ o
          → Good n rows (option_map_or (λ s. cond (any_past K (stepped K (at K r (n + j)) (at K s (n + j)) r s)) passes (handled K n rows columns (suc j) (stepped K (at K r (n + j)) (at K s (n + j)) r s))) o (kept j (negated_if K (below (at K r (n + j))) r)))
      by_option ih nz None e = (e, signed_nonzero L (below (at K r (n + j))) r (n + j) (found_nonzero L (at K r (n + j)) nz))
      by_option ih nz (Some s) e =
          cond_both (any_past K (stepped K (at K r (n + j)) (at K s (n + j)) r s)) passes (handled K n rows columns (suc j) (stepped K (at K r (n + j)) (at K s (n + j)) r s)) (Good n rows)
          (λ _. tt) (λ _. ih (stepped K (at K r (n + j)) (at K s (n + j)) r s))

      go : ((q : List A) → Good n rows (handled K n rows columns (suc j) q)) → Good n rows (handled K n rows (suc columns) j r)
      go ih =
          cond_both (is_zero (at K r (n + j))) (handled K n rows columns (suc j) r)
          (option_map_or (λ s. cond (any_past K (stepped K (at K r (n + j)) (at K s (n + j)) r s)) passes (handled K n rows columns (suc j) (stepped K (at K r (n + j)) (at K s (n + j)) r s))) (kept_under rows j) (kept j (negated_if K (below (at K r (n + j))) r)))
          (Good n rows) (λ _. ih r) (λ nz. by_option ih nz (kept_under rows j) refl)

  matches_more : (n : ℕ) (filed : List (List A)) (rows : List (ℕ × List A)) (j : ℕ) (q : List A) → Matches n filed rows → kept_under rows j ≡ None → at K q (n + j) ≢ 𝟘 → Matches n (put filed j q) (rows ++ ((j, q) ∷ []))
  matches_more n filed rows j q m e h k = go (ℕ_discrete k j)
    where
      go : Dec (k ≡ j) → Match n k (kept_under (rows ++ ((j, q) ∷ [])) k) (get_or (put filed j q) k [])
      go (yes f) = subst (λ x. Match n x (kept_under (rows ++ ((j, q) ∷ [])) x) (get_or (put filed j q) x [])) (sym f)
          (subst (λ o. Match n j o (get_or (put filed j q) j [])) (sym (found_new rows j q e)) (put_same filed j q, h))
      go (no f) = subst (λ s. Match n k (kept_under (rows ++ ((j, q) ∷ [])) k) s) (sym (put_other filed j q k f))
          (subst (λ o. Match n k o (get_or filed k [])) (sym (found_other rows j k q f)) (m k))

  -- the balances so far, before those of the rest
  onto : List (List A) → Result (List (List A)) ℕ → Result (List (List A)) ℕ
  onto ws (Ok vs) = Ok (ws ++ vs)
  onto ws (Err b) = Err b

  onto_with : (ws : List (List A)) (w : List A) (x : Result (List (List A)) ℕ) → onto (ws ++ w ∷ []) x ≡ onto ws (with_balance w x)
  unfolding onto
  onto_with ws w (Ok vs) = ap Ok (append_assoc ws (w ∷ []) vs)
  onto_with ws w (Err b) = refl

  onto_none : (x : Result (List (List A)) ℕ) → onto [] x ≡ x
  unfolding onto
  onto_none (Ok vs) = refl
  onto_none (Err b) = refl

  same_rows : (n m b : ℕ) (filed : List (List A)) (rows : List (ℕ × List A)) (ws rs : List (List A)) → Matches n filed rows → eliminated K n m (record { rows = rows; balances = ws }) b rs ≡ onto ws (filed_eliminated K n m filed b rs)
  unfolding eliminated filed_eliminated onto
  same_rows n m b filed rows ws [] h = ap Ok (sym (append-nil ws))
  same_rows n m b filed rows ws (r ∷ rs) h = by_past (any_past K r) _ _ (same_case (λ f k us. same_rows n m (suc b) f k us rs))
    where
      same_case : ((f : List (List A)) (k : List (ℕ × List A)) (us : List (List A)) → Matches n f k → eliminated K n m (record { rows = k; balances = us }) (suc b) rs ≡ onto us (filed_eliminated K n m f (suc b) rs))
          → option_map_or (λ more. eliminated K n m more (suc b) rs) (added K n (record { rows = rows; balances = ws }) (handled K n rows m 0 r)) (Err b)
          ≡ onto ws (by_case (λ j q. filed_eliminated K n m (put filed j q) (suc b) rs) (λ q. with_balance (take n q) (filed_eliminated K n m filed (suc b) rs)) (Err b) (filed_handled K n filed m 0 r))
      same_case ih =
          go (handled K n rows m 0 r) (good n rows m 0 r)
          ∙ ap (λ x. onto ws (by_case (λ j q. filed_eliminated K n m (put filed j q) (suc b) rs) (λ q. with_balance (take n q) (filed_eliminated K n m filed (suc b) rs)) (Err b) x)) (sym (same_row n filed rows h m 0 r))
        where
          go : (x : Handled A) → Good n rows x
              → option_map_or (λ more. eliminated K n m more (suc b) rs) (added K n (record { rows = rows; balances = ws }) x) (Err b)
              ≡ onto ws (by_case (λ j q. filed_eliminated K n m (put filed j q) (suc b) rs) (λ q. with_balance (take n q) (filed_eliminated K n m filed (suc b) rs)) (Err b) x)
          go (kept j q) g = ih (put filed j q) (rows ++ ((j, q) ∷ [])) ws (matches_more n filed rows j q h g.0 g.1)
          go (balance q) g = ih filed rows (ws ++ take n q ∷ []) h ∙ onto_with ws (take n q) (filed_eliminated K n m filed (suc b) rs)
          go passes g = refl

      by_past : (p : Bool) (x y : Result (List (List A)) ℕ) → x ≡ onto ws y → cond p (Err b) x ≡ onto ws (cond p (Err b) y)
      by_past true x y e = refl
      by_past false x y e = e

  none_match : (n : ℕ) → Matches n [] []
  none_match n j = refl

  pub same : (m : ℕ) (fs : List (List A)) → eliminate K m fs ≡ filed_eliminate K m fs
  unfolding eliminate filed_eliminate
  same m fs = same_rows (length fs) m 0 [] [] [] (starts K (length fs) 0 fs) (none_match (length fs)) ∙ onto_none (filed_eliminated K (length fs) m [] 0 (starts K (length fs) 0 fs))

  pub sound : Sound K
  sound m fs ws e = filed_sound L m fs ws (sym (same m fs) ∙ e)

  pub exactly : Exactly K
  exactly m fs ws e = filed_exactly L m fs ws (sym (same m fs) ∙ e)

  pub shaped : Shaped K
  shaped m fs ws all e = filed_shaped L m fs ws all (sym (same m fs) ∙ e)

  pub signed : Signed K
  signed m fs ws e = filed_signed L m fs ws (sym (same m fs) ∙ e)

  pub steps_clear : StepsClear K
  steps_clear r s i h =
      let t = step L (at K r i) (at K s i) r s h in
      (step_clears L r s i h, λ k er es. t.clears k (ap (K.mul t.a) er ∙ mul_zero L t.a ∙ sym (mul_zero L t.c) ∙ ap (K.mul t.c) (sym es)))
