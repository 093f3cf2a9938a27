-- What becomes of one row. Assumes nothing.
use Rattle.std.proofs.Common.{◌≡◌, ℕ, zero, suc, ◌+◌, ◌<◌, Bool, true, false, ◌≢◌, List, [], ◌∷◌, refl, map, get_or, sym, ap, ◌∙◌, subst, ap₂, inl, inr, arith}
use native.Mathlib.Decide.{ℕ_discrete}
use Rattle.std.proofs.lemmas.Bool.{cond_both, cond-true, cond-false}
use Rattle.kinds.specs.Kinds.{Kind, Lawful}
use Rattle.kinds.specs.Elimination.{at, stepped, negated_if, leads_below, any_past, Handled, kept, balance, passes}
use Rattle.kinds.specs.Completeness.{comb}
use Rattle.kinds.proofs.Filing.{filed_handled}
use Rattle.kinds.proofs.Ring.{mul_left_comm, one_mul, mul_zero, neg_zero, neg_neg, neg_mul, mul_neg, add_cancel, mul_cancel, mul_nonzero, zero_or, found_nonzero, nonzero_found}
use Rattle.kinds.proofs.Comb.{comb_lin, comb_none, comb_same, at_negated, Span, span_zero, span_lin, span_row}
use Rattle.kinds.proofs.Division.{Step, step, step_clears}
use Rattle.kinds.proofs.Filed.{Slot, Filed, slot_before}

-- a nonzero multiple of r is a multiple of q and a sum of multiples of the rows
pub record Reached (K : Kind) (rows : List (List K.Num)) (r q : List K.Num) : Type 0 where
  pub factor : K.Num
  pub nonzero : factor ≢ K.zero
  pub scale : K.Num
  pub rest : ℕ → K.Num
  pub span : Span K rows rest
  pub is : (i : ℕ) → K.mul factor (at K r i) ≡ K.add (K.mul scale (at K q i)) (rest i)

-- the coefficients are what the weights say of the rows' own coefficients fs
abbrev pub Law : (K : Kind) → ℕ → List (List K.Num) → List K.Num → Type 0
Law K n fs r = (j : ℕ) → at K r (n + j) ≡ comb K (at K r) fs j

module _ {K : Kind} (L : Lawful K) where
  open K use {Num as A, zero as 𝟘, one as 𝟙, add as ◌⊕◌, mul as ◌⊗◌, neg as ⊖◌, is_zero}

  infixl 6 ◌⊕◌
  infixl 7 ◌⊗◌
  infix 8 ⊖◌
  pub reached_self : (rows : List (List A)) (r : List A) → Reached K rows r r
  reached_self rows r = record {
    factor = 𝟙;
    nonzero = L.one_nonzero;
    scale = 𝟙;
    rest = λ i. 𝟘;
    span = span_zero L rows;
    is = λ i. sym (L.add_zero _);
  }

  pub reached_negated : (rows : List (List A)) (r : List A) → Reached K rows r (map K.neg r)
  reached_negated rows r = record {
    factor = 𝟙;
    nonzero = L.one_nonzero;
    scale = ⊖ 𝟙;
    rest = λ i. 𝟘;
    span = span_zero L rows;
    is = λ i. sym (L.add_zero _ ∙ ap (λ u. (⊖ 𝟙) ⊗ u) (at_negated L r i) ∙ neg_mul L _ _ ∙ ap (λ u. ⊖ u) (mul_neg L _ _) ∙ neg_neg L _);
  }

  regroup : (k a x e y c z s q t : A) → a ⊗ x ≡ (e ⊗ y) ⊕ (c ⊗ z) → k ⊗ y ≡ (s ⊗ q) ⊕ t → (k ⊗ a) ⊗ x ≡ ((e ⊗ s) ⊗ q) ⊕ ((e ⊗ t) ⊕ ((k ⊗ c) ⊗ z))
  regroup k a x e y c z s q t h l =
      L.mul_assoc k a x ∙ ap (λ u. k ⊗ u) h ∙ L.mul_add k _ _ ∙ ap (λ u. u ⊕ (k ⊗ (c ⊗ z))) (mul_left_comm L k e y ∙ ap (λ u. e ⊗ u) l)
      ∙ simp (L.mul_add, L.mul_assoc, L.add_assoc)

  pub reached_step : (rows : List (List A)) (j : ℕ) (r q o : List A) → Step K r (get_or rows j []) q → Reached K rows q o → Reached K rows r o
  reached_step rows j r q o s t = record {
    factor = t.factor ⊗ s.a;
    nonzero = mul_nonzero L t.nonzero s.nonzero;
    scale = s.e ⊗ t.scale;
    rest = λ i. (s.e ⊗ t.rest i) ⊕ ((t.factor ⊗ s.c) ⊗ at K (get_or rows j []) i);
    span = span_lin L s.e t.span (t.factor ⊗ s.c) (span_row L rows j);
    is = λ i. regroup t.factor s.a (at K r i) s.e (at K q i) s.c (at K (get_or rows j []) i) t.scale (at K o i) (t.rest i) (s.is i) (t.is i);
  }

  -- ---- the law
  pub law_negated : (n : ℕ) (fs : List (List A)) (r : List A) → Law K n fs r → Law K n fs (map K.neg r)
  law_negated n fs r h j =
      let each : (i : ℕ) → at K (map K.neg r) i ≡ ((⊖ 𝟙) ⊗ at K r i) ⊕ (𝟘 ⊗ 𝟘) = λ i. at_negated L r i ∙ sym (ap₂ (λ u v. u ⊕ v) (neg_mul L _ _ ∙ ap (λ u. ⊖ u) (one_mul L _)) (mul_zero L _) ∙ L.add_zero _) in
      each (n + j) ∙ ap (λ u. ((⊖ 𝟙) ⊗ u) ⊕ (𝟘 ⊗ 𝟘)) (h j) ∙ ap (λ u. ((⊖ 𝟙) ⊗ comb K (at K r) fs j) ⊕ (𝟘 ⊗ u)) (sym (comb_none L fs j))
      ∙ sym (comb_lin L (⊖ 𝟙) (at K r) 𝟘 (λ i. 𝟘) fs j) ∙ sym (comb_same L each fs j)

  pub law_step : (n : ℕ) (fs : List (List A)) (r s q : List A) → Step K r s q → Law K n fs s → Law K n fs r → Law K n fs q
  law_step n fs r s q t hs hr j = go (zero_or L t.e)
    where
      scaled : (i : ℕ) → (t.a ⊗ at K r i) ⊕ (𝟘 ⊗ 𝟘) ≡ (t.e ⊗ at K q i) ⊕ (t.c ⊗ at K s i)
      scaled i = ap (λ u. (t.a ⊗ at K r i) ⊕ u) (mul_zero L _) ∙ L.add_zero _ ∙ t.is i

      both : (t.e ⊗ at K q (n + j)) ⊕ (t.c ⊗ at K s (n + j)) ≡ (t.e ⊗ comb K (at K q) fs j) ⊕ (t.c ⊗ comb K (at K s) fs j)
      both =
          sym (scaled (n + j)) ∙ ap (λ u. (t.a ⊗ u) ⊕ (𝟘 ⊗ 𝟘)) (hr j) ∙ ap (λ u. (t.a ⊗ comb K (at K r) fs j) ⊕ (𝟘 ⊗ u)) (sym (comb_none L fs j))
          ∙ sym (comb_lin L t.a (at K r) 𝟘 (λ i. 𝟘) fs j) ∙ comb_same L scaled fs j ∙ comb_lin L t.e (at K q) t.c (at K s) fs j

      go : Dec (t.e ≡ 𝟘) → at K q (n + j) ≡ comb K (at K q) fs j
      go (yes z) = t.none z (n + j) ∙ sym (comb_none L fs j) ∙ sym (comb_same L (t.none z) fs j)
      go (no nz) = mul_cancel L t.e nz (add_cancel L (t.c ⊗ at K s (n + j)) (both ∙ ap (λ u. (t.e ⊗ comb K (at K q) fs j) ⊕ (t.c ⊗ u)) (sym (hs j))))

  pub negated_nonzero : (r : List A) (i : ℕ) → at K r i ≢ 𝟘 → at K (map K.neg r) i ≢ 𝟘
  negated_nonzero r i h e = h (sym (neg_neg L _) ∙ ap (λ u. ⊖ u) (sym (at_negated L r i) ∙ e) ∙ neg_zero L)

  pub negated_zero : (r : List A) (i : ℕ) → at K r i ≡ 𝟘 → at K (map K.neg r) i ≡ 𝟘
  negated_zero r i e = at_negated L r i ∙ ap (λ u. ⊖ u) e ∙ neg_zero L

  -- a row that is negated or not
  pub signed_zero : (b : Bool) (r : List A) (i : ℕ) → at K r i ≡ 𝟘 → at K (negated_if K b r) i ≡ 𝟘
  signed_zero true r i e = negated_zero r i e
  signed_zero false r i e = e

  pub signed_nonzero : (b : Bool) (r : List A) (i : ℕ) → at K r i ≢ 𝟘 → at K (negated_if K b r) i ≢ 𝟘
  signed_nonzero true r i h = negated_nonzero r i h
  signed_nonzero false r i h = h

  -- negated where it is below zero there, it is not below zero there
  pub signed_not_below : (r : List A) (i : ℕ) → K.below (at K (negated_if K (K.below (at K r i)) r) i) ≡ false
  signed_not_below r i = go (K.below (at K r i)) refl
    where
      go : (b : Bool) → K.below (at K r i) ≡ b → K.below (at K (negated_if K b r) i) ≡ false
      go true e = ap K.below (at_negated L r i) ∙ L.below_once (at K r i) e
      go false e = e

  -- negated where its first nonzero weight is below zero, that weight is not below zero
  leads_negated : (n : ℕ) (r : List A) → leads_below K n r ≡ true → leads_below K n (map K.neg r) ≡ false
  leads_negated zero r e = refl
  leads_negated (suc n) [] e = refl
  leads_negated (suc n) (x ∷ r) e = go (leads_negated n r) (zero_or L x)
    where
      go : (leads_below K n r ≡ true → leads_below K n (map K.neg r) ≡ false) → Dec (x ≡ 𝟘) → leads_below K (suc n) (map K.neg (x ∷ r)) ≡ false
      go ih (yes z) =
          cond-true (is_zero (⊖ x)) (leads_below K n (map K.neg r)) (K.below (⊖ x)) (ap (λ u. is_zero (⊖ u)) z ∙ ap is_zero (neg_zero L) ∙ L.zero_found)
          ∙ ih (sym (cond-true (is_zero x) (leads_below K n r) (K.below x) (ap is_zero z ∙ L.zero_found)) ∙ e)
      go ih (no h) =
          cond-false (is_zero (⊖ x)) (leads_below K n (map K.neg r)) (K.below (⊖ x)) (nonzero_found L (⊖ x) (λ z. h (sym (neg_neg L x) ∙ ap (λ u. ⊖ u) z ∙ neg_zero L)))
          ∙ L.below_once x (sym (cond-false (is_zero x) (leads_below K n r) (K.below x) (nonzero_found L x h)) ∙ e)

  pub signed_leads : (n : ℕ) (r : List A) → leads_below K n (negated_if K (leads_below K n r) r) ≡ false
  signed_leads n r = go (leads_below K n r) refl
    where
      go : (b : Bool) → leads_below K n r ≡ b → leads_below K n (negated_if K b r) ≡ false
      go true e = leads_negated n r e
      go false e = e

-- ---- the scan
pub record Good (K : Kind) (n : ℕ) (fs rows : List (List K.Num)) (r q : List K.Num) : Type 0 where
  pub reached : Reached K rows r q
  pub law : Law K n fs r → Law K n fs q

-- what is known of what becomes of r
abbrev pub Told : (K : Kind) → (n m : ℕ) → (fs rows : List (List K.Num)) → List K.Num → Handled K.Num → Type 0
Told K n m fs rows r (kept j q) =
    Good K n fs rows r q × (j < m) × (get_or rows j [] ≡ []) × (at K q (n + j) ≢ K.zero) × ((i : ℕ) → i < j → at K q (n + i) ≡ K.zero)
Told K n m fs rows r (balance q) = Good K n fs rows r q × ((i : ℕ) → i < m → at K q (n + i) ≡ K.zero) × (leads_below K n q ≡ false)
Told K n m fs rows r passes = Unit {0}

module _ {K : Kind} (L : Lawful K) (n m : ℕ) (fs rows : List (List K.Num)) (filed : Filed K n rows) (laws : (j : ℕ) → Law K n fs (get_or rows j [])) where
  open K use {Num as A, zero as 𝟘, one as 𝟙, add as ◌⊕◌, mul as ◌⊗◌, neg as ⊖◌, is_zero}

  infixl 6 ◌⊕◌
  infixl 7 ◌⊗◌
  good_signed : (b : Bool) (r : List A) → Good K n fs rows r (negated_if K b r)
  good_signed true r = record { reached = reached_negated L rows r; law = law_negated L n fs r }
  good_signed false r = record { reached = reached_self L rows r; law = λ h. h }

  told_step : (j : ℕ) (r q : List A) → Step K r (get_or rows j []) q → (h : Handled A) → Told K n m fs rows q h → Told K n m fs rows r h
  told_step j r q s (kept k o) t = (good t.0, t.1, t.2, t.3, t.4)
    where
      good : Good K n fs rows q o → Good K n fs rows r o
      good g = record { reached = reached_step L rows j r q o s g.reached; law = λ h. g.law (law_step L n fs r (get_or rows j []) q s (laws j) h) }
  told_step j r q s (balance o) t = (good t.0, t.1, t.2)
    where
      good : Good K n fs rows q o → Good K n fs rows r o
      good g = record { reached = reached_step L rows j r q o s g.reached; law = λ h. g.law (law_step L n fs r (get_or rows j []) q s (laws j) h) }
  told_step j r q s passes t = tt

  one_more : (P : ℕ → Type 0) (j : ℕ) → ((i : ℕ) → i < j → P i) → P j → (i : ℕ) → i < suc j → P i
  one_more P j h p i l = go (ℕ_discrete i j)
    where
      go : Dec (i ≡ j) → P i
      go (yes e) = subst P (sym e) p
      go (no ne) = h i (omega arith)

  empty_slot : (j : ℕ) → Slot K n j (get_or rows j []) → at K (get_or rows j []) (n + j) ≡ 𝟘 → get_or rows j [] ≡ []
  empty_slot j (inl e) z = e
  empty_slot j (inr k) z = absurd (k.0 z)

  pub told : (columns j : ℕ) (r : List A) → columns + j ≡ m → ((i : ℕ) → i < j → at K r (n + i) ≡ 𝟘) → Told K n m fs rows r (filed_handled K n rows columns j r)
  unfolding filed_handled
  told zero j r e zeros = (good_signed (leads_below K n r) r, λ i h. signed_zero L (leads_below K n r) r (n + i) (zeros i (omega arith)), signed_leads L n r)
  told (suc columns) j r e zeros =
      let c : A = at K r (n + j) in
      let s : List A = get_or rows j [] in
      let p : A = at K s (n + j) in
      let q : List A = stepped K c p r s in
      let P : Handled A → Type 0 = Told K n m fs rows r in
      let on : Handled A = filed_handled K n rows columns (suc j) q in
      cond_both (is_zero c) _ _ P
      (λ z. told columns (suc j) r (omega arith) (one_more (λ i. at K r (n + i) ≡ 𝟘) j zeros (L.found_zero c z)))
      (λ nz. cond_both (is_zero p) _ _ P
      (λ z. (good_signed (K.below c) r, omega arith, empty_slot j (filed j) (L.found_zero p z), signed_nonzero L (K.below c) r (n + j) (found_nonzero L c nz), λ i h. signed_zero L (K.below c) r (n + i) (zeros i h)))
      (λ np. cond_both (any_past K q) passes on P (λ _. tt)
      (λ _.
      let st : Step K r s q = step L c p r s (found_nonzero L p np) in
      let before : (i : ℕ) → i < j → at K q (n + i) ≡ 𝟘 = λ i h. st.clears (n + i) (ap (λ u. st.a ⊗ u) (zeros i h) ∙ mul_zero L _ ∙ sym (mul_zero L _) ∙ ap (λ u. st.c ⊗ u) (sym (slot_before L n j i (get_or rows j []) (filed j) h))) in
      told_step j r q st on (told columns (suc j) q (omega arith) (one_more (λ i. at K q (n + i) ≡ 𝟘) j before (step_clears L r s (n + j) (found_nonzero L p np)))))))
