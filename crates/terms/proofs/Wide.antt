-- Sizes of sums and products, and i64 values as the code has them.
use Rattle.std.proofs.Common.{◌≡◌, ℕ, suc, ◌+◌, ◌-◌, ◌*◌, ◌^◌, ◌<◌, ◌≤◌, true, false, eqb, ltb, ℤ, pos, negsuc, ◌+ℤ◌, ◌*ℤ◌, nat_abs, sym, ap₂, ◌∙◌, subst, arith, w64, SFits, to_z, of_z}
use lib.IntN.{sub_ℕ}
use Rattle.std.proofs.lemmas.Int.{to_z-of_z, unsigned_abs-mul, fits_signed_from_abs}
use Rattle.std.proofs.lemmas.Bool.{eq-eqb, ne_eqb, cond_both, ltb-true}

-- a number that went to its bits and back
pub back : (z : ℤ) → nat_abs z < 2 ^ 63 → to_z w64 (of_z w64 z) ≡ z
back z h = to_z-of_z w64 z (fits_signed_from_abs w64 z h)

subℕ_size : (a b : ℕ) → nat_abs (sub_ℕ a b) ≤ a + b
subℕ_size a b = cond_both (ltb a b) (negsuc (b - suc a)) (pos (a - b)) (λ (z : ℤ). nat_abs z ≤ a + b) (λ e. omega (arith, ltb-true a b e)) (λ e. omega arith)

pub nat_abs_sum : (a b : ℤ) → nat_abs (a +ℤ b) ≤ nat_abs a + nat_abs b
nat_abs_sum (pos a) (pos b) = omega arith
nat_abs_sum (pos a) (negsuc b) = omega (arith, subℕ_size a (suc b))
nat_abs_sum (negsuc a) (pos b) = omega (arith, subℕ_size b (suc a))
nat_abs_sum (negsuc a) (negsuc b) = omega arith

-- a test for zero, by the bits
pub null_of : (z : ℤ) → nat_abs z < 2 ^ 63 → of_z w64 z ≡ 0 → eqb (nat_abs z) 0 ≡ true
null_of (pos n) h e = eq-eqb n 0 e
null_of (negsuc n) h e = absurd (omega arith)

pub whole_of : (z : ℤ) → (of_z w64 z ≡ 0 → ⊥) → eqb (nat_abs z) 0 ≡ false
whole_of (pos n) e = ne_eqb n 0 e
whole_of (negsuc n) e = ne_eqb (suc n) 0 (λ f. omega arith)

-- what the code has for a number k times a number d, both of which it read
abbrev pub made : ℤ → ℤ → ℤ
made k d = to_z w64 (of_z w64 k) *ℤ to_z w64 (of_z w64 d)

read_product : (k d : ℤ) → SFits w64 k → SFits w64 d → made k d ≡ k *ℤ d
read_product k d g f = ap₂ (λ (x y : ℤ). x *ℤ y) (to_z-of_z w64 k g) (to_z-of_z w64 d f)

pub made_fits : (k d : ℤ) → SFits w64 k → SFits w64 d → nat_abs k * nat_abs d < 2 ^ 63 → SFits w64 (made k d)
made_fits k d g f h = subst (SFits w64) (sym (read_product k d g f)) (fits_signed_from_abs w64 (k *ℤ d) (omega (arith, unsigned_abs-mul k d)))

pub made_is : (k d : ℤ) → SFits w64 k → SFits w64 d → nat_abs k * nat_abs d < 2 ^ 63 → to_z w64 (of_z w64 (made k d)) ≡ k *ℤ d
made_is k d g f h = to_z-of_z w64 (made k d) (made_fits k d g f h) ∙ read_product k d g f
