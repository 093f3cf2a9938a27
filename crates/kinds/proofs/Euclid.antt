-- Euclid's two rules, and where the divisor is 0.
use Rattle.std.proofs.Common.{◌≡◌, ℕ, zero, suc, ◌*◌, ◌/◌, ◌%◌, ◌<◌, ℤ, pos, unsigned_abs, refl, sym, ap, subst, ◌∙◌, mod-lt, zero-mul, arith}
use Rattle.std.proofs.Math.Nat.{mul-div_cancel'}
use Rattle.std.specs.Prelude.{int_div}
use Rattle.std.specs.Int.{IsGcd, ◌∣◌}
use Rattle.kinds.specs.Kinds.{euclid, gcd}
use Rattle.kinds.specs.Euclid.{gcd_is}
use Rattle.kinds.specs.Wholes.{abs_zero, zero_quotient}

-- more steps than needed change nothing
euclid_same : (k l a b : ℕ) → b < k → b < l → euclid k a b ≡ euclid l a b
euclid_same zero l a b h j = absurd (omega arith)
euclid_same (suc k) zero a b h j = absurd (omega arith)
euclid_same (suc k) (suc l) a zero h j = refl
euclid_same (suc k) (suc l) a (suc b) h j =
    let pos : 0 < suc b = omega arith in
    let less : a % suc b < suc b = mod-lt a pos in
    euclid_same k l (suc b) (a % suc b) (omega arith) (omega arith)

-- Euclid's two rules
pub gcd_end : (a : ℕ) → gcd a 0 ≡ a
unfolding gcd
gcd_end a = refl

pub gcd_step : (a b : ℕ) → 0 < b → gcd a b ≡ gcd b (a % b)
unfolding gcd
gcd_step a zero h = absurd (omega arith)
gcd_step a (suc b) h =
    let less : a % suc b < suc b = mod-lt a h in
    euclid_same (suc b) (suc (a % suc b)) (suc b) (a % suc b) (omega arith) (omega arith)

-- an answer of the recursion: at its end, and after a step
pub ended_gcd : (a b : ℕ) → b ≡ 0 → a ≡ gcd a b
ended_gcd a b e = sym (ap (gcd a) e ∙ gcd_end a)

pub stepped_gcd : (a b r : ℕ) → ¬ (b ≡ 0) → r ≡ gcd b (a % b) → r ≡ gcd a b
stepped_gcd a b r h e = e ∙ sym (gcd_step a b (omega arith))

-- what it is of both: at the end, and after a step
is_gcd : (a b r : ℕ) → r ≡ gcd a b → IsGcd a b r
is_gcd a b r e = subst (IsGcd a b) (sym e) (gcd_is a b)

pub stepped_left : (a b r : ℕ) → ¬ (b ≡ 0) → r ≡ gcd b (a % b) → r ∣ a
stepped_left a b r h e = (is_gcd a b r (stepped_gcd a b r h e)).0

pub stepped_right : (a b r : ℕ) → ¬ (b ≡ 0) → r ≡ gcd b (a % b) → r ∣ b
stepped_right a b r h e = (is_gcd a b r (stepped_gcd a b r h e)).1

pub stepped_greatest : (a b r : ℕ) → ¬ (b ≡ 0) → r ≡ gcd b (a % b) → (d : ℕ) → d ∣ a → d ∣ b → d ∣ r
stepped_greatest a b r h e = (is_gcd a b r (stepped_gcd a b r h e)).2

-- it is 0 of two zeros alone
gcd_none : (a b : ℕ) → gcd a b ≡ 0 → (a ≡ 0) × (b ≡ 0)
gcd_none a b e =
    let zero_by : (n : ℕ) → gcd a b ∣ n → n ≡ 0 = λ n d. sym (mul-div_cancel' (gcd a b) d) ∙ ap (λ g. g * (n / gcd a b)) e ∙ zero-mul (n / gcd a b) in
    (zero_by a (gcd_is a b).0, zero_by b (gcd_is a b).1)

-- and each of them over it is itself
pub none_over : (x y : ℤ) → gcd (unsigned_abs x) (unsigned_abs y) ≡ 0
    → (x ≡ int_div x (pos (gcd (unsigned_abs x) (unsigned_abs y)))) × (y ≡ int_div y (pos (gcd (unsigned_abs x) (unsigned_abs y))))
none_over x y e =
    let z = gcd_none (unsigned_abs x) (unsigned_abs y) e in
    let over : (w : ℤ) → unsigned_abs w ≡ 0 → w ≡ int_div w (pos (gcd (unsigned_abs x) (unsigned_abs y))) = λ w h.
    let n = abs_zero w h in
    n ∙ sym (ap (λ v. int_div v (pos (gcd (unsigned_abs x) (unsigned_abs y)))) n ∙ zero_quotient (pos (gcd (unsigned_abs x) (unsigned_abs y)))) in
    (over x z.0, over y z.1)
