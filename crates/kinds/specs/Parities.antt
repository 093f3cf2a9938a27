-- Parities keep the laws.
use Rattle.std.specs.Prelude.{◌≡◌, ℕ, zero, suc, ◌+◌, ◌-◌, ◌*◌, ◌/◌, ◌%◌, ◌<◌, Bool, true, false, cond, not, ◌&&◌, T, ℤ, pos, negsuc, ◌+ℤ◌, ◌*ℤ◌, ◌==◌, nat_eq, nat_lt, unsigned_abs, refl}
use Rattle.std.proofs.Common.{sym, ap, ◌∙◌, true≢false, arith, ltb→lt, lt→ltb}
use Rattle.std.proofs.Math.Nat.{div-add-mod}
use Rattle.std.proofs.Math.Bool.{and_comm, and_assoc}
use Rattle.std.proofs.lemmas.Int.{unsigned_abs-mul}
use Rattle.kinds.specs.Kinds.{Lawful, parities, past, differ}

pub plus_comm : (a b : Bool) → differ a b ≡ differ b a
plus_comm true true = refl
plus_comm true false = refl
plus_comm false true = refl
plus_comm false false = refl

pub plus_assoc : (a b c : Bool) → differ (differ a b) c ≡ differ a (differ b c)
plus_assoc true true true = refl
plus_assoc true true false = refl
plus_assoc true false c = refl
plus_assoc false b c = refl

pub plus_none : (a : Bool) → differ a false ≡ a
plus_none true = refl
plus_none false = refl

pub plus_self : (a : Bool) → differ a a ≡ false
plus_self true = refl
plus_self false = refl

pub and_plus : (a b c : Bool) → (a && differ b c) ≡ differ (a && b) (a && c)
and_plus true b c = refl
and_plus false b c = refl

pub and_one : (a : Bool) → (a && true) ≡ a
and_one true = refl
and_one false = refl

pub no_divisors : (a b : Bool) → (a && b) ≡ false → ¬ (a ≡ false) → b ≡ false
no_divisors true b e h = e
no_divisors false b e h = absurd (h refl)

pub even : (a : Bool) → not a ≡ true → a ≡ false
even true e = sym e
even false e = refl

pub exact : (x d : Bool) → (q : Bool) × ((d && q) ≡ x) → (d && x) ≡ x
exact x true h = refl
exact x false h = h.1

-- parities of sums, differences and products
sum_by : (x y z : ℕ) → x < 2 → y < 2 → z ≡ (x + y) % 2 → (z == 1) ≡ differ (x == 1) (y == 1)
sum_by zero zero z h k e = rw e
sum_by zero (suc zero) z h k e = rw e
sum_by zero (suc (suc y)) z h k e = absurd (omega arith)
sum_by (suc zero) zero z h k e = rw e
sum_by (suc zero) (suc zero) z h k e = rw e
sum_by (suc zero) (suc (suc y)) z h k e = absurd (omega arith)
sum_by (suc (suc x)) y z h k e = absurd (omega arith)

odd_by : (a b c : ℕ) → c % 2 ≡ (a % 2 + b % 2) % 2 → (c % 2 == 1) ≡ differ (a % 2 == 1) (b % 2 == 1)
odd_by a b c e = sum_by (a % 2) (b % 2) (c % 2) (omega arith) (omega arith) e

less_by : (a b : ℕ) (t : Bool) → nat_lt a b ≡ t → (unsigned_abs (cond t (negsuc (b - suc a)) (pos (a - b))) % 2 == 1) ≡ differ (a % 2 == 1) (b % 2 == 1)
less_by a b true e = let h : a < b = ltb→lt a b (rw e tt) in odd_by a b (suc (b - suc a)) (omega arith)
less_by a b false e = let n : a < b → ⊥ = λ k. let t : T (nat_lt a b) = lt→ltb a b k in rw e at t in odd_by a b (a - b) (omega arith)

odd_sum : (x y : ℤ) → (unsigned_abs (x +ℤ y) % 2 == 1) ≡ differ (unsigned_abs x % 2 == 1) (unsigned_abs y % 2 == 1)
odd_sum (pos a) (pos b) = odd_by a b (a + b) (omega arith)
odd_sum (pos a) (negsuc b) = less_by a (suc b) (nat_lt a (suc b)) refl
odd_sum (negsuc a) (pos b) = less_by b (suc a) (nat_lt b (suc a)) refl ∙ plus_comm (b % 2 == 1) (suc a % 2 == 1)
odd_sum (negsuc a) (negsuc b) = odd_by (suc a) (suc b) (suc (suc (a + b))) (omega arith)

times_by : (q r n k : ℕ) → r < 2 → k ≡ 2 * (q * n) + r * n → (k % 2 == 1) ≡ (r == 1 && n % 2 == 1)
times_by q zero n k h e = let z : k % 2 ≡ 0 = omega arith in rw z
times_by q (suc zero) n k h e = let z : k % 2 ≡ n % 2 = omega arith in rw z
times_by q (suc (suc r)) n k h e = absurd (omega arith)

odd_times : (m n : ℕ) → (m * n % 2 == 1) ≡ (m % 2 == 1 && n % 2 == 1)
odd_times m n =
    let s : (2 * (m / 2) + m % 2) * n ≡ m * n = ap (λ x. x * n) (div-add-mod m 2) in
    times_by (m / 2) (m % 2) n (m * n) (omega arith) (omega arith)

odd_product : (x y : ℤ) → (unsigned_abs (x *ℤ y) % 2 == 1) ≡ (unsigned_abs x % 2 == 1 && unsigned_abs y % 2 == 1)
odd_product x y = ap (λ n. nat_eq (n % 2) 1) (unsigned_abs-mul x y) ∙ odd_times (unsigned_abs x) (unsigned_abs y)

odd_bit : (b : Bool) → (unsigned_abs (cond b (pos 1) (pos 0)) % 2 == 1) ≡ b
odd_bit true = refl
odd_bit false = refl

-- a parity is within its limit
pub parity_within : (x : Bool) → past parities x ≡ false
parity_within true = refl
parity_within false = refl

pub parities_lawful : Lawful parities
parities_lawful = record {
  add_comm = plus_comm;
  add_assoc = plus_assoc;
  add_zero = plus_none;
  add_neg = plus_self;
  mul_comm = and_comm;
  mul_assoc = and_assoc;
  mul_one = and_one;
  mul_add = and_plus;
  one_nonzero = true≢false;
  no_divisors = no_divisors;
  zero_found = refl;
  found_zero = even;
  divides_left = λ x y. (x, refl);
  divides_right = λ x y. (y, refl);
  exact = exact;
  zero_quotient = λ d. refl;
  zero_not_below = refl;
  below_once = λ x e. refl;
  size_neg = λ x. refl;
  counts_one = refl;
  counts_sum = odd_sum;
  counts_product = odd_product;
  counts_written = odd_bit;
}
