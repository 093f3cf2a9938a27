-- Sums of multiples of rows. Assumes nothing.
use Rattle.std.proofs.Common.{◌≡◌, ℕ, zero, suc, List, [], ◌∷◌, map, get_or, sym, refl, ap, ◌∙◌, ap₂}
use mathlib.Core.Path.{fun_ext}
use Rattle.kinds.specs.Kinds.{Kind, Lawful}
use Rattle.kinds.specs.Elimination.{at, less}
use Rattle.kinds.specs.Completeness.{comb}
use Rattle.kinds.proofs.Filing.{put}
use Rattle.kinds.proofs.Ring.{add_left_comm, add_mul, zero_add, one_mul, mul_zero, zero_mul, neg_zero, none_more, zero_more}

module _ {K : Kind} (L : Lawful K) where
  open K use {Num as A, zero as 𝟘, one as 𝟙, add as ◌⊕◌, mul as ◌⊗◌, neg as ⊖◌}

  infixl 6 ◌⊕◌
  infixl 7 ◌⊗◌
  infix 8 ⊖◌
  -- what keeps zero is read through a map
  pub at_map : (f : A → A) → f 𝟘 ≡ 𝟘 → (r : List A) (i : ℕ) → at K (map f r) i ≡ f (at K r i)
  at_map f z [] i = sym z
  at_map f z (x ∷ xs) zero = refl
  at_map f z (x ∷ xs) (suc i) = at_map f z xs i

  pub at_negated : (r : List A) (i : ℕ) → at K (map K.neg r) i ≡ ⊖ (at K r i)
  at_negated = at_map K.neg (neg_zero L)

  pub at_less : (a : A) (r : List A) (c : A) (s : List A) (i : ℕ) → at K (less K a r c s) i ≡ (a ⊗ at K r i) ⊕ (⊖ (c ⊗ at K s i))
  at_less a [] c s i =
      at_map (λ y. ⊖ (c ⊗ y)) (ap (λ u. ⊖ u) (mul_zero L c) ∙ neg_zero L) s i ∙ sym (zero_add L _) ∙ ap (λ u. u ⊕ (⊖ (c ⊗ at K s i))) (sym (mul_zero L a))
  at_less a (x ∷ xs) c [] zero = sym (ap (λ u. (a ⊗ x) ⊕ (⊖ u)) (mul_zero L c) ∙ ap (λ u. (a ⊗ x) ⊕ u) (neg_zero L) ∙ L.add_zero _)
  at_less a (x ∷ xs) c [] (suc i) = at_less a xs c [] i
  at_less a (x ∷ xs) c (y ∷ ys) zero = refl
  at_less a (x ∷ xs) c (y ∷ ys) (suc i) = at_less a xs c ys i

  comb_lin_step : (a c x y r X Y : A) → (((a ⊗ x) ⊕ (c ⊗ y)) ⊗ r) ⊕ ((a ⊗ X) ⊕ (c ⊗ Y)) ≡ (a ⊗ ((x ⊗ r) ⊕ X)) ⊕ (c ⊗ ((y ⊗ r) ⊕ Y))
  comb_lin_step a c x y r X Y = simp (add_mul L, L.mul_add, L.mul_assoc, L.add_assoc, L.add_comm, add_left_comm L)

  pub comb_lin : (a : A) (x : ℕ → A) (c : A) (y : ℕ → A) (rs : List (List A)) (i : ℕ) → comb K (λ j. (a ⊗ x j) ⊕ (c ⊗ y j)) rs i ≡ (a ⊗ comb K x rs i) ⊕ (c ⊗ comb K y rs i)
  comb_lin a x c y [] i = sym (ap (λ u. u ⊕ (c ⊗ 𝟘)) (mul_zero L a) ∙ zero_add L _ ∙ mul_zero L c)
  comb_lin a x c y (r ∷ rs) i =
      ap (λ u. (((a ⊗ x zero) ⊕ (c ⊗ y zero)) ⊗ at K r i) ⊕ u) (comb_lin a (λ j. x (suc j)) c (λ j. y (suc j)) rs i)
      ∙ comb_lin_step a c (x zero) (y zero) (at K r i) (comb K (λ j. x (suc j)) rs i) (comb K (λ j. y (suc j)) rs i)

  pub comb_none : (rs : List (List A)) (i : ℕ) → comb K (λ j. 𝟘) rs i ≡ 𝟘
  comb_none [] i = refl
  comb_none (r ∷ rs) i = ap (λ u. u ⊕ comb K (λ j. 𝟘) rs i) (zero_mul L (at K r i)) ∙ zero_add L _ ∙ comb_none rs i

  pub comb_same : {x y : ℕ → A} → ((j : ℕ) → x j ≡ y j) → (rs : List (List A)) (i : ℕ) → comb K x rs i ≡ comb K y rs i
  comb_same h rs i = ap (λ u. comb K u rs i) (fun_ext h)

-- v is a sum of multiples of the rows
pub record Span (K : Kind) (rows : List (List K.Num)) (v : ℕ → K.Num) : Type 0 where
  pub by : ℕ → K.Num
  pub is : (i : ℕ) → v i ≡ comb K by rows i

abbrev pub first : {X : Type 0} → X → (ℕ → X) → ℕ → X
first x f zero = x
first x f (suc n) = f n

module _ {K : Kind} (L : Lawful K) where
  open K use {Num as A, zero as 𝟘, one as 𝟙, add as ◌⊕◌, mul as ◌⊗◌, neg as ⊖◌}

  infixl 6 ◌⊕◌
  infixl 7 ◌⊗◌
  infix 8 ⊖◌
  pub span_same : {rows : List (List A)} {u v : ℕ → A} → ((i : ℕ) → v i ≡ u i) → Span K rows u → Span K rows v
  span_same h s = record { by = s.by; is = λ i. h i ∙ s.is i }

  pub span_zero : (rows : List (List A)) → Span K rows (λ i. 𝟘)
  span_zero rows = record { by = λ j. 𝟘; is = λ i. sym (comb_none L rows i) }

  pub span_lin : {rows : List (List A)} {u v : ℕ → A} (a : A) → Span K rows u → (c : A) → Span K rows v → Span K rows (λ i. (a ⊗ u i) ⊕ (c ⊗ v i))
  span_lin {rows} a s c t = record {
    by = λ j. (a ⊗ s.by j) ⊕ (c ⊗ t.by j);
    is = λ i. ap₂ (λ x y. (a ⊗ x) ⊕ (c ⊗ y)) (s.is i) (t.is i) ∙ sym (comb_lin L a s.by c t.by rows i);
  }

  pub span_cons : {rows : List (List A)} {v : ℕ → A} (a : A) (r : List A) → Span K rows v → Span K (r ∷ rows) (λ i. (a ⊗ at K r i) ⊕ v i)
  span_cons a r s = record { by = first a s.by; is = λ i. ap (λ x. (a ⊗ at K r i) ⊕ x) (s.is i) }

  -- the row at place j
  pub span_row : (rows : List (List A)) (j : ℕ) → Span K rows (at K (get_or rows j []))
  span_row [] j = record { by = λ k. 𝟘; is = λ i. refl }
  span_row (r ∷ rows) zero = span_same (λ i. sym (L.add_zero _ ∙ one_mul L _)) (span_cons 𝟙 r (span_zero rows))
  span_row (r ∷ rows) (suc j) = span_same (λ i. sym (none_more L _ _)) (span_cons 𝟘 r (span_row rows j))

  -- with r put in an empty place
  pub span_put : (rows : List (List A)) (j : ℕ) (r : List A) (a : A) (v : ℕ → A) → get_or rows j [] ≡ [] → Span K rows v → Span K (put rows j r) (λ i. (a ⊗ at K r i) ⊕ v i)
  span_put [] zero r a v e s = span_cons a r (span_same {rows = []} s.is (span_zero []))
  span_put [] (suc j) r a v e s = span_same (λ i. sym (none_more L _ _)) (span_cons 𝟘 [] (span_put [] j r a v e (record { by = s.by; is = s.is })))
  span_put (t ∷ rows) zero r a v e s = record {
    by = first a (λ k. s.by (suc k));
    is = λ i. ap (λ x. (a ⊗ at K r i) ⊕ x) (s.is i ∙ ap (λ x. (s.by zero ⊗ at K x i) ⊕ comb K (λ k. s.by (suc k)) rows i) e ∙ zero_more L _ _);
  }
  span_put (t ∷ rows) (suc j) r a v e s =
      let rest : ℕ → A = λ i. comb K (λ k. s.by (suc k)) rows i in
      span_same (λ i. ap (λ x. (a ⊗ at K r i) ⊕ x) (s.is i) ∙ add_left_comm L _ _ _)
      (span_cons (s.by zero) t (span_put rows j r a rest e (record { by = λ k. s.by (suc k); is = λ i. refl })))
