-- Whole numbers keep the laws.
use Rattle.std.specs.Prelude.{◌≡◌, ℕ, zero, suc, ◌+◌, ◌*◌, ◌/◌, ◌<◌, Bool, true, false, ◌≢◌, ℤ, pos, negsuc, ◌+ℤ◌, ◌*ℤ◌, neg_ℤ, ◌==◌, int_div, int_lt, unsigned_abs, refl}
use Rattle.std.proofs.Common.{sym, ap, subst, ◌∙◌, mul-one, mul-zero, mul-pos, arith, eqb→eq, ltb→lt}
use Rattle.std.specs.Int.{◌∣◌}
use Rattle.std.proofs.Math.Nat.{zero-div, mul-div_cancel', dvd-mul_right}
use Rattle.std.proofs.Math.IntN.{+ℤ_comm, +ℤ_assoc, +ℤ_idr, +ℤ_invr, *ℤ_comm}
use Rattle.std.proofs.lemmas.Bool.{le-ltb}
use Rattle.std.proofs.lemmas.Int.{unsigned_abs-mul}
use borrow.Author.Differences.{up, down, same_in, sum_is_lem, product_is}
use Rattle.kinds.specs.Kinds.{Lawful, wholes, gcd}
use Rattle.kinds.specs.Euclid.{gcd_is}

up_product : (a b : ℤ) → up (a *ℤ b) ≡ up a * up b + down a * down b
up_product a b = (product_is a b).0

down_product : (a b : ℤ) → down (a *ℤ b) ≡ up a * down b + down a * up b
down_product a b = (product_is a b).1

pub *ℤ_assoc : (a b c : ℤ) → (a *ℤ b) *ℤ c ≡ a *ℤ (b *ℤ c)
*ℤ_assoc a b c = same_in _ _ (simp (up_product, down_product) (omega arith))

pub *ℤ-+ℤ : (a b c : ℤ) → a *ℤ (b +ℤ c) ≡ (a *ℤ b) +ℤ (a *ℤ c)
*ℤ-+ℤ a b c =
    let s = sum_is_lem b c in
    let t = sum_is_lem (a *ℤ b) (a *ℤ c) in
    let u : up a * (up (b +ℤ c) + down b + down c) ≡ up a * (down (b +ℤ c) + up b + up c) = ap (λ x. up a * x) s in
    let v : down a * (up (b +ℤ c) + down b + down c) ≡ down a * (down (b +ℤ c) + up b + up c) = ap (λ x. down a * x) s in
    same_in _ _ (omega (arith, product_is a (b +ℤ c), product_is a b, product_is a c))

pub *ℤ_one : (a : ℤ) → a *ℤ pos 1 ≡ a
*ℤ_one (pos a) = ap pos (mul-one a)
*ℤ_one (negsuc a) = ap (λ x. neg_ℤ (pos x)) (mul-one (suc a))

pub abs_neg : (n : ℕ) → unsigned_abs (neg_ℤ (pos n)) ≡ n
abs_neg zero = refl
abs_neg (suc n) = refl

pub abs_zero : (z : ℤ) → unsigned_abs z ≡ 0 → z ≡ pos 0
abs_zero (pos n) e = ap pos e
abs_zero (negsuc n) e = absurd (omega arith)

factor_zero : (m n : ℕ) → m * n ≡ 0 → m ≢ 0 → n ≡ 0
factor_zero m zero e h = refl
factor_zero m (suc n) e h = let p : 0 < m * suc n = mul-pos (omega arith) (omega arith) in absurd (omega arith)

pub *ℤ_none : (x y : ℤ) → x *ℤ y ≡ pos 0 → x ≢ pos 0 → y ≡ pos 0
*ℤ_none x y e h = abs_zero y (factor_zero (unsigned_abs x) (unsigned_abs y) (sym (unsigned_abs-mul x y) ∙ ap unsigned_abs e) (λ z. h (abs_zero x z)))

abbrev pub none : ℤ → Bool
none z = unsigned_abs z == 0

pub found_none : (z : ℤ) → none z ≡ true → z ≡ pos 0
found_none z e = abs_zero z (eqb→eq (unsigned_abs z) 0 (rw e tt))

pub one_nonzero : pos 1 ≢ pos 0
one_nonzero e = let z : ◌≡◌ {A = ℕ} 1 0 = ap unsigned_abs e in absurd (omega arith)

-- ---- division
pos_by_neg : (k n : ℕ) → pos k *ℤ neg_ℤ (pos n) ≡ neg_ℤ (pos (k * n))
pos_by_neg k zero = ap pos (mul-zero k) ∙ sym (ap (λ x. neg_ℤ (pos x)) (mul-zero k))
pos_by_neg k (suc n) = refl

neg_by_neg : (k n : ℕ) → negsuc k *ℤ neg_ℤ (pos n) ≡ pos (suc k * n)
neg_by_neg k zero = ap (λ x. neg_ℤ (pos x)) (mul-zero (suc k)) ∙ sym (ap pos (mul-zero (suc k)))
neg_by_neg k (suc n) = refl

-- a divisor of the size divides
divides : (g : ℕ) (x : ℤ) → g ∣ unsigned_abs x → (q : ℤ) × (pos g *ℤ q ≡ x)
divides g (pos n) d = (pos (n / g), ap pos (mul-div_cancel' g d))
divides g (negsuc n) d = (neg_ℤ (pos (suc n / g)), pos_by_neg g (suc n / g) ∙ ap (λ x. neg_ℤ (pos x)) (mul-div_cancel' g d))

exact_by : (x d : ℤ) → unsigned_abs d * (unsigned_abs x / unsigned_abs d) ≡ unsigned_abs x → d *ℤ int_div x d ≡ x
exact_by (pos n) (pos k) e = ap pos e
exact_by (pos n) (negsuc k) e = neg_by_neg k (n / suc k) ∙ ap pos e
exact_by (negsuc n) (pos k) e = pos_by_neg k (suc n / k) ∙ ap (λ x. neg_ℤ (pos x)) e
exact_by (negsuc n) (negsuc k) e = ap (λ x. neg_ℤ (pos x)) e

abbrev pub divisor : ℤ → ℤ → ℤ
divisor x y = pos (gcd (unsigned_abs x) (unsigned_abs y))

pub divides_left : (x y : ℤ) → (q : ℤ) × (divisor x y *ℤ q ≡ x)
divides_left x y = divides (gcd (unsigned_abs x) (unsigned_abs y)) x (gcd_is (unsigned_abs x) (unsigned_abs y)).0

pub divides_right : (x y : ℤ) → (q : ℤ) × (divisor x y *ℤ q ≡ y)
divides_right x y = divides (gcd (unsigned_abs x) (unsigned_abs y)) y (gcd_is (unsigned_abs x) (unsigned_abs y)).1

pub exact : (x d : ℤ) → (q : ℤ) × (d *ℤ q ≡ x) → d *ℤ int_div x d ≡ x
exact x d (q, e) =
    let m : unsigned_abs d * unsigned_abs q ≡ unsigned_abs x = sym (unsigned_abs-mul d q) ∙ ap unsigned_abs e in
    exact_by x d (mul-div_cancel' (unsigned_abs d) (subst (λ n. unsigned_abs d ∣ n) m (dvd-mul_right (unsigned_abs d) (unsigned_abs q))))

pub zero_quotient : (d : ℤ) → int_div (pos 0) d ≡ pos 0
zero_quotient (pos k) = ap pos (zero-div k)
zero_quotient (negsuc k) = ap (λ x. neg_ℤ (pos x)) (zero-div (suc k))

pub abs_of_neg : (z : ℤ) → unsigned_abs (neg_ℤ z) ≡ unsigned_abs z
abs_of_neg (pos n) = abs_neg n
abs_of_neg (negsuc n) = refl

pub below_once : (z : ℤ) → int_lt z (pos 0) ≡ true → int_lt (neg_ℤ z) (pos 0) ≡ false
below_once (pos n) e = let h : n < 0 = ltb→lt n 0 (rw e tt) in absurd (omega arith)
below_once (negsuc n) e = le-ltb (suc n) 0 (omega arith)

pub wholes_lawful : Lawful wholes
wholes_lawful = record {
  add_comm = +ℤ_comm;
  add_assoc = +ℤ_assoc;
  add_zero = +ℤ_idr;
  add_neg = +ℤ_invr;
  mul_comm = *ℤ_comm;
  mul_assoc = *ℤ_assoc;
  mul_one = *ℤ_one;
  mul_add = *ℤ-+ℤ;
  one_nonzero = one_nonzero;
  no_divisors = *ℤ_none;
  zero_found = refl;
  found_zero = found_none;
  divides_left = divides_left;
  divides_right = divides_right;
  exact = exact;
  zero_quotient = zero_quotient;
  zero_not_below = refl;
  below_once = below_once;
  size_neg = abs_of_neg;
  counts_one = refl;
  counts_sum = λ x y. refl;
  counts_product = λ x y. refl;
  counts_written = λ x. refl;
}
