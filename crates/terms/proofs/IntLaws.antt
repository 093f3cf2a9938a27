-- What the library lacks: that the product distributes over a sum, by whole numbers.
use Rattle.std.proofs.Common.{◌≡◌, zero, suc, ℤ, pos, negsuc, ◌+ℤ◌, ◌*ℤ◌, sym, ◌∙◌, ap₂, arith}
use Rattle.std.proofs.lemmas.Int.{ints}
use lib.IntN.{suc_ℤ-*ℤ, pred_ℤ-*ℤ, zero-*ℤ, *ℤ_comm}

pub mul_sum : (m a b : ℤ) → m *ℤ (a +ℤ b) ≡ m *ℤ a +ℤ m *ℤ b
mul_sum (pos zero) a b = zero-*ℤ (a +ℤ b) ∙ sym (ap₂ (λ (x y : ℤ). x +ℤ y) (zero-*ℤ a) (zero-*ℤ b))
mul_sum (pos (suc n)) a b =
    omega (arith, ints, suc_ℤ-*ℤ (pos n) (a +ℤ b), suc_ℤ-*ℤ (pos n) a, suc_ℤ-*ℤ (pos n) b, mul_sum (pos n) a b)
mul_sum (negsuc zero) a b =
    omega (arith, ints, pred_ℤ-*ℤ (pos zero) (a +ℤ b), pred_ℤ-*ℤ (pos zero) a, pred_ℤ-*ℤ (pos zero) b, zero-*ℤ (a +ℤ b), zero-*ℤ a, zero-*ℤ b)
mul_sum (negsuc (suc n)) a b =
    omega (arith, ints, pred_ℤ-*ℤ (negsuc n) (a +ℤ b), pred_ℤ-*ℤ (negsuc n) a, pred_ℤ-*ℤ (negsuc n) b, mul_sum (negsuc n) a b)

pub sum_mul : (a b m : ℤ) → (a +ℤ b) *ℤ m ≡ a *ℤ m +ℤ b *ℤ m
sum_mul a b m = *ℤ_comm (a +ℤ b) m ∙ mul_sum m a b ∙ ap₂ (λ (x y : ℤ). x +ℤ y) (*ℤ_comm m a) (*ℤ_comm m b)
