-- Division of a row by the divisor of its numbers, and one step of elimination. Assumes nothing.
use Rattle.std.proofs.Common.{◌≡◌, ℕ, zero, suc, ◌≢◌, List, [], ◌∷◌, sym, refl, ap, ◌∙◌}
use Rattle.kinds.specs.Kinds.{Kind, Lawful, Divides}
use Rattle.kinds.specs.Elimination.{at, less, divisor_from, over, divided, stepped}
use Rattle.kinds.proofs.Ring.{mul_left_comm, mul_zero, zero_mul, neg_add}
use Rattle.kinds.proofs.Comb.{at_map, at_less}

-- q comes from r by a step against s: a times r is e times q and c times s
pub record Step (K : Kind) (r s q : List K.Num) : Type 0 where
  pub a : K.Num
  pub c : K.Num
  pub e : K.Num
  pub nonzero : a ≢ K.zero
  pub is : (i : ℕ) → K.mul a (at K r i) ≡ K.add (K.mul e (at K q i)) (K.mul c (at K s i))
  pub none : e ≡ K.zero → (i : ℕ) → at K q i ≡ K.zero
  pub clears : (i : ℕ) → K.mul a (at K r i) ≡ K.mul c (at K s i) → at K q i ≡ K.zero

module _ {K : Kind} (L : Lawful K) where
  open K use {Num as A, zero as 𝟘, one as 𝟙, add as ◌⊕◌, mul as ◌⊗◌, neg as ⊖◌, is_zero}
  open K use {divisor, quotient}

  infixl 6 ◌⊕◌
  infixl 7 ◌⊗◌
  infix 8 ⊖◌
  pub divides_trans : {d e x : K.Num} → Divides K d e → Divides K e x → Divides K d x
  divides_trans {d} (q, h) (p, k) = (K.mul q p, sym (L.mul_assoc d q p) ∙ ap (λ u. K.mul u p) h ∙ k)

  from_divides_start : (d : A) (r : List A) → Divides K (divisor_from K d r) d
  from_divides_start d [] = (𝟙, L.mul_one d)
  from_divides_start d (x ∷ xs) = divides_trans (from_divides_start (divisor d x) xs) (L.divides_left d x)

  from_divides_each : (d : A) (r : List A) (i : ℕ) → Divides K (divisor_from K d r) (at K r i)
  from_divides_each d [] i = (𝟘, mul_zero L d)
  from_divides_each d (x ∷ xs) zero = divides_trans (from_divides_start (divisor d x) xs) (L.divides_right d x)
  from_divides_each d (x ∷ xs) (suc i) = from_divides_each (divisor d x) xs i

  at_over : (d : A) (r : List A) (i : ℕ) → at K (over K d r) i ≡ quotient (at K r i) d
  at_over d = at_map L (λ x. quotient x d) (L.zero_quotient d)

  pub divided_exact : (r : List A) (i : ℕ) → divisor_from K 𝟘 r ⊗ at K (divided K r) i ≡ at K r i
  divided_exact r i =
      ap (λ u. divisor_from K 𝟘 r ⊗ u) (at_over (divisor_from K 𝟘 r) r i) ∙ L.exact (at K r i) (divisor_from K 𝟘 r) (from_divides_each 𝟘 r i)

  pub divided_zero : (r : List A) (i : ℕ) → at K r i ≡ 𝟘 → at K (divided K r) i ≡ 𝟘
  divided_zero r i e = at_over (divisor_from K 𝟘 r) r i ∙ ap (λ u. quotient u (divisor_from K 𝟘 r)) e ∙ L.zero_quotient _

  pub back : (x y : A) → (x ⊕ (⊖ y)) ⊕ y ≡ x
  back x y = L.add_assoc _ _ _ ∙ ap (λ u. x ⊕ u) (neg_add L y) ∙ L.add_zero x

  pub step_exact : (c p : A) → (x y : A) → x ≡ c → y ≡ p → quotient p (divisor c p) ⊗ x ≡ quotient c (divisor c p) ⊗ y
  step_exact c p x y ex ey =
      let g : A = divisor c p in
      let c' : A = quotient c g in
      let p' : A = quotient p g in
      let hc : g ⊗ c' ≡ c = L.exact c g (L.divides_left c p) in
      let hp : g ⊗ p' ≡ p = L.exact p g (L.divides_right c p) in
      ap (λ u. p' ⊗ u) (ex ∙ sym hc) ∙ mul_left_comm L p' g c' ∙ sym (L.mul_assoc g p' c') ∙ ap (λ u. u ⊗ c') (hp ∙ sym ey) ∙ L.mul_comm y c'

  pub step : (c p : A) (r s : List A) → p ≢ 𝟘 → Step K r s (stepped K c p r s)
  step c p r s hp =
      let g : A = divisor c p in
      let c' : A = quotient c g in
      let p' : A = quotient p g in
      let l : List A = less K p' r c' s in
      let e : A = divisor_from K 𝟘 l in
      record {
        a = p';
        c = c';
        e = e;
        nonzero = λ z. hp (sym (L.exact p g (L.divides_right c p)) ∙ ap (λ u. g ⊗ u) z ∙ mul_zero L g);
        is = λ i. sym (ap (λ u. u ⊕ (c' ⊗ at K s i)) (divided_exact l i ∙ at_less L p' r c' s i) ∙ back _ _);
        none = λ z i. divided_zero l i (sym (divided_exact l i) ∙ ap (λ u. u ⊗ at K (divided K l) i) z ∙ zero_mul L _);
        clears = λ i h. divided_zero l i (at_less L p' r c' s i ∙ ap (λ u. u ⊕ (⊖ (c' ⊗ at K s i))) h ∙ L.add_neg _);
      }

  -- the step's own column is cleared
  pub step_clears : (r s : List A) (k : ℕ) → at K s k ≢ 𝟘 → at K (stepped K (at K r k) (at K s k) r s) k ≡ 𝟘
  unfolding step
  step_clears r s k hp = (step (at K r k) (at K s k) r s hp).clears k (step_exact (at K r k) (at K s k) (at K r k) (at K s k) refl refl)
