-- What follows from the laws of a kind of number. Assumes nothing.
use Rattle.std.proofs.Common.{◌≡◌, Bool, true, false, ◌≢◌, ℤ, pos, neg_ℤ, sym, refl, ap, ◌∙◌, true≢false}
use lib.IntN.{+ℤ_comm, +ℤ_invr}
use Rattle.kinds.specs.Kinds.{Kind, Lawful}

module _ {K : Kind} (L : Lawful K) where
  open K use {Num as A, zero as 𝟘, one as 𝟙, add as ◌⊕◌, mul as ◌⊗◌, neg as ⊖◌, is_zero}

  infixl 6 ◌⊕◌
  infixl 7 ◌⊗◌
  infix 8 ⊖◌
  pub add_left_comm : (x y z : A) → x ⊕ (y ⊕ z) ≡ y ⊕ (x ⊕ z)
  add_left_comm x y z = sym (L.add_assoc x y z) ∙ ap (λ u. u ⊕ z) (L.add_comm x y) ∙ L.add_assoc y x z

  pub mul_left_comm : (x y z : A) → x ⊗ (y ⊗ z) ≡ y ⊗ (x ⊗ z)
  mul_left_comm x y z = sym (L.mul_assoc x y z) ∙ ap (λ u. u ⊗ z) (L.mul_comm x y) ∙ L.mul_assoc y x z

  pub add_mul : (x y z : A) → (x ⊕ y) ⊗ z ≡ (x ⊗ z) ⊕ (y ⊗ z)
  add_mul x y z = L.mul_comm _ _ ∙ L.mul_add z x y ∙ ap (λ u. u ⊕ (z ⊗ y)) (L.mul_comm z x) ∙ ap (λ u. (x ⊗ z) ⊕ u) (L.mul_comm z y)

  pub zero_add : (x : A) → 𝟘 ⊕ x ≡ x
  zero_add x = L.add_comm 𝟘 x ∙ L.add_zero x

  pub one_mul : (x : A) → 𝟙 ⊗ x ≡ x
  one_mul x = L.mul_comm 𝟙 x ∙ L.mul_one x

  pub neg_add : (x : A) → (⊖ x) ⊕ x ≡ 𝟘
  neg_add x = L.add_comm _ _ ∙ L.add_neg x

  pub add_take : (x z : A) → (x ⊕ z) ⊕ (⊖ z) ≡ x
  add_take x z = L.add_assoc x z (⊖ z) ∙ ap (λ u. x ⊕ u) (L.add_neg z) ∙ L.add_zero x

  pub add_cancel : {x y : A} (z : A) → x ⊕ z ≡ y ⊕ z → x ≡ y
  add_cancel {x} {y} z e = sym (add_take x z) ∙ ap (λ u. u ⊕ (⊖ z)) e ∙ add_take y z

  pub mul_zero : (x : A) → x ⊗ 𝟘 ≡ 𝟘
  mul_zero x = add_cancel (x ⊗ 𝟘) (sym (L.mul_add x 𝟘 𝟘) ∙ ap (λ u. x ⊗ u) (L.add_zero 𝟘) ∙ sym (zero_add (x ⊗ 𝟘)))

  pub zero_mul : (x : A) → 𝟘 ⊗ x ≡ 𝟘
  zero_mul x = L.mul_comm 𝟘 x ∙ mul_zero x

  -- a multiple by zero added
  pub none_more : (x y : A) → (𝟘 ⊗ x) ⊕ y ≡ y
  none_more x y = ap (λ u. u ⊕ y) (zero_mul x) ∙ zero_add y

  pub zero_more : (x y : A) → (x ⊗ 𝟘) ⊕ y ≡ y
  zero_more x y = ap (λ u. u ⊕ y) (mul_zero x) ∙ zero_add y

  pub neg_unique : (x y : A) → x ⊕ y ≡ 𝟘 → x ≡ ⊖ y
  neg_unique x y e = add_cancel y (e ∙ sym (neg_add y))

  pub neg_mul : (x y : A) → (⊖ x) ⊗ y ≡ ⊖ (x ⊗ y)
  neg_mul x y = neg_unique _ _ (sym (add_mul (⊖ x) x y) ∙ ap (λ u. u ⊗ y) (neg_add x) ∙ zero_mul y)

  pub mul_neg : (x y : A) → x ⊗ (⊖ y) ≡ ⊖ (x ⊗ y)
  mul_neg x y = L.mul_comm _ _ ∙ neg_mul y x ∙ ap (λ u. ⊖ u) (L.mul_comm y x)

  pub neg_neg : (x : A) → ⊖ (⊖ x) ≡ x
  neg_neg x = sym (neg_unique x (⊖ x) (L.add_neg x))

  pub neg_zero : ⊖ 𝟘 ≡ 𝟘
  neg_zero = sym (neg_unique 𝟘 𝟘 (L.add_zero 𝟘))

  pub zero_or : (x : A) → Dec (x ≡ 𝟘)
  zero_or x = go (is_zero x) refl
    where
      go : (b : Bool) → is_zero x ≡ b → Dec (x ≡ 𝟘)
      go true e = yes (L.found_zero x e)
      go false e = no (λ z. true≢false (sym L.zero_found ∙ ap is_zero (sym z) ∙ e))

  pub found_nonzero : (x : A) → is_zero x ≡ false → x ≢ 𝟘
  found_nonzero x e z = true≢false (sym L.zero_found ∙ ap is_zero (sym z) ∙ e)

  pub nonzero_found : (x : A) → x ≢ 𝟘 → is_zero x ≡ false
  nonzero_found x h = go (is_zero x) refl
    where
      go : (b : Bool) → is_zero x ≡ b → is_zero x ≡ false
      go true e = absurd (h (L.found_zero x e))
      go false e = e

  pub mul_nonzero : {x y : A} → x ≢ 𝟘 → y ≢ 𝟘 → x ⊗ y ≢ 𝟘
  mul_nonzero {x} {y} hx hy e = hy (L.no_divisors x y e hx)

  pub mul_cancel : (d : A) {x y : A} → d ≢ 𝟘 → d ⊗ x ≡ d ⊗ y → x ≡ y
  mul_cancel d {x} {y} h e =
      let z : d ⊗ (x ⊕ (⊖ y)) ≡ 𝟘 = L.mul_add d x (⊖ y) ∙ ap (λ u. u ⊕ (d ⊗ (⊖ y))) e ∙ ap (λ u. (d ⊗ y) ⊕ u) (mul_neg d y) ∙ L.add_neg (d ⊗ y) in
      let s : x ⊕ (⊖ y) ≡ 𝟘 = L.no_divisors d _ z h in
      neg_unique x (⊖ y) s ∙ neg_neg y

  -- counting keeps zero and negation
  pub counts_zero : K.counts (pos 0) ≡ 𝟘
  counts_zero = add_cancel (K.counts (pos 0)) (sym (L.counts_sum (pos 0) (pos 0)) ∙ sym (zero_add (K.counts (pos 0))))

  pub counts_neg : (x : ℤ) → K.counts (neg_ℤ x) ≡ ⊖ (K.counts x)
  counts_neg x = neg_unique _ _ (sym (L.counts_sum (neg_ℤ x) x) ∙ ap K.counts (+ℤ_comm (neg_ℤ x) x ∙ +ℤ_invr x) ∙ counts_zero)
