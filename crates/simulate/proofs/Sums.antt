-- A belt's weight times its count, and one belt more in a sum over belts.
use Rattle.std.proofs.Common.{◌≡◌, ℕ, zero, suc, ◌+◌, ◌*◌, ◌^◌, ◌<◌, ◌≤◌, ℤ, pos, ◌+ℤ◌, ◌*ℤ◌, ◌≤ℤ◌, neg_ℤ, nat_abs, sym, ap, ap₂, ◌∙◌, add-one, arith, mul-le-mul, w32, SFits, to_z, of_z}
use mir.Syntax.{w128}
use Rattle.std.proofs.lemmas.Int.{ints, to_z-of_z, unsigned_abs-mul, fits_signed_from_abs, fits_signed_mul}
use Rattle.flows.specs.Completeness.{total, comes_to}

total_last : (n : ℕ) (f : ℕ → ℤ) → total (suc n) f ≡ total n f +ℤ f n
total_last zero f = omega (arith, ints)
total_last (suc n) f = let e = total_last n (λ i. f (suc i)) in omega (arith, ints)

pub comes_to_more : (n : ℕ) (w amount : ℕ → ℤ) → comes_to (n + 1) w amount ≡ comes_to n w amount +ℤ w n *ℤ amount n
comes_to_more n w amount = ap (λ k. comes_to k w amount) (add-one n) ∙ total_last n (λ b. w b *ℤ amount b)

-- what the code has for a 32-bit number a times a 16-bit number k is their product
module _ (x y a : ℤ) (k : ℕ) (ex : x ≡ a) (ey : y ≡ pos k) (fits : SFits w32 a) (lt : k < 2 ^ 16) where
  abs_le : nat_abs a ≤ 2 ^ 31
  abs_le = omega (arith, ints)

  pub wide_product : to_z w128 (of_z w128 (to_z w128 (of_z w128 x) *ℤ to_z w128 (of_z w128 y))) ≡ a *ℤ pos k
  wide_product =
      let fa : SFits w128 a = fits_signed_from_abs w128 a (omega (arith, abs_le)) in
      let fk : SFits w128 (pos k) = fits_signed_from_abs w128 (pos k) (omega arith) in
      let e = ap₂ (λ (u v : ℤ). to_z w128 (of_z w128 u) *ℤ to_z w128 (of_z w128 v)) ex ey ∙ ap₂ (λ (u v : ℤ). u *ℤ v) (to_z-of_z w128 a fa) (to_z-of_z w128 (pos k) fk) in
      ap (λ (z : ℤ). to_z w128 (of_z w128 z)) e ∙ to_z-of_z w128 (a *ℤ pos k) (fits_signed_mul w128 a (pos k) (2 ^ 31) (2 ^ 16) abs_le (omega arith) (omega arith))

  product_le : nat_abs (a *ℤ pos k) ≤ 2 ^ 47
  product_le = let m : nat_abs a * k ≤ 2 ^ 31 * 2 ^ 16 = mul-le-mul {n₁ = nat_abs a} {m₁ = k} {n₂ = 2 ^ 31} {m₂ = 2 ^ 16} abs_le (omega arith) in omega (arith, unsigned_abs-mul a (pos k))

  pub product_bounds : (neg_ℤ (pos (2 ^ 47)) ≤ℤ (a *ℤ pos k)) × ((a *ℤ pos k) ≤ℤ pos (2 ^ 47))
  product_bounds = let h = product_le in (omega (arith, ints), omega (arith, ints))

-- a turn of the loop that adds up: s is the sum so far, p the next product
module _ (w amount : ℕ → ℤ) (n : ℕ) (s p : ℤ) (sum : s ≡ comes_to n w amount) (next : p ≡ w n *ℤ amount n) (few : n < 2 ^ 64) (least : neg_ℤ (pos (2 ^ 47 * n)) ≤ℤ s) (most : s ≤ℤ pos (2 ^ 47 * n))
    (above : neg_ℤ (pos (2 ^ 47)) ≤ℤ p) (below : p ≤ℤ pos (2 ^ 47)) where
  abbrev after : ℤ
  after = to_z w128 (of_z w128 (s +ℤ to_z w128 (of_z w128 p)))

  is_sum : after ≡ s +ℤ p
  is_sum =
      let fp : SFits w128 p = omega (arith, ints) in
      let fs : SFits w128 (s +ℤ p) = omega (arith, ints) in
      ap (λ (z : ℤ). to_z w128 (of_z w128 (s +ℤ z))) (to_z-of_z w128 p fp) ∙ to_z-of_z w128 (s +ℤ p) fs

  pub sum_on : (after ≡ comes_to (n + 1) w amount) × (neg_ℤ (pos (2 ^ 47 * (n + 1))) ≤ℤ after) × (after ≤ℤ pos (2 ^ 47 * (n + 1)))
  sum_on = let e = is_sum in (e ∙ ap₂ (λ (x y : ℤ). x +ℤ y) sum next ∙ sym (comes_to_more n w amount), omega (arith, ints), omega (arith, ints))
