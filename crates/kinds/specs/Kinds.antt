-- The kinds of number that elimination works on: whole numbers and parities. Assumes nothing.
use Rattle.std.specs.Prelude.{◌≡◌, ℕ, zero, suc, ◌%◌, Bool, true, false, cond, if◌then◌else◌, not, ◌&&◌, ℤ, pos, ◌+ℤ◌, ◌*ℤ◌, neg_ℤ, ◌==◌, ◌≢◌, int_lt, nat_lt, unsigned_abs}
use Rattle.std.specs.Int.Signed.{quot_z}

-- what elimination does with numbers, as what number a whole number counts, and as what whole number a number is written
pub record Kind : Type 1 where
  pub Num : Type 0
  pub zero : Num
  pub one : Num
  pub add : Num → Num → Num
  pub mul : Num → Num → Num
  pub neg : Num → Num
  pub is_zero : Num → Bool
  pub divisor : Num → Num → Num
  pub quotient : Num → Num → Num
  pub below : Num → Bool
  pub limit : ℕ
  pub size : Num → ℕ
  pub counts : ℤ → Num
  pub writes : Num → ℤ

-- whether a number is past its kind's limit: its size is above it
abbrev pub past : (K : Kind) → K.Num → Bool
past K x = nat_lt K.limit (K.size x)

-- d divides x
abbrev pub Divides : (K : Kind) → K.Num → K.Num → Type 0
Divides K d x = (q : K.Num) × (K.mul d q ≡ x)

-- a commutative ring where no product of nonzero numbers is zero (an integral domain), with exact division by a divisor,
-- signs (zero is not below zero, and of a number and its negative at most one is), a size that does not ask for the sign,
-- and a counting that keeps sums and products (a ring map from the integers)
pub record Lawful (K : Kind) : Type 0 where
  pub add_comm : (x y : K.Num) → K.add x y ≡ K.add y x
  pub add_assoc : (x y z : K.Num) → K.add (K.add x y) z ≡ K.add x (K.add y z)
  pub add_zero : (x : K.Num) → K.add x K.zero ≡ x
  pub add_neg : (x : K.Num) → K.add x (K.neg x) ≡ K.zero
  pub mul_comm : (x y : K.Num) → K.mul x y ≡ K.mul y x
  pub mul_assoc : (x y z : K.Num) → K.mul (K.mul x y) z ≡ K.mul x (K.mul y z)
  pub mul_one : (x : K.Num) → K.mul x K.one ≡ x
  pub mul_add : (x y z : K.Num) → K.mul x (K.add y z) ≡ K.add (K.mul x y) (K.mul x z)
  pub one_nonzero : K.one ≡ K.zero → ⊥
  pub no_divisors : (x y : K.Num) → K.mul x y ≡ K.zero → (x ≢ K.zero) → y ≡ K.zero
  pub zero_found : K.is_zero K.zero ≡ true
  pub found_zero : (x : K.Num) → K.is_zero x ≡ true → x ≡ K.zero
  pub divides_left : (x y : K.Num) → Divides K (K.divisor x y) x
  pub divides_right : (x y : K.Num) → Divides K (K.divisor x y) y
  pub exact : (x d : K.Num) → Divides K d x → K.mul d (K.quotient x d) ≡ x
  pub zero_quotient : (d : K.Num) → K.quotient K.zero d ≡ K.zero
  pub zero_not_below : K.below K.zero ≡ false
  pub below_once : (x : K.Num) → K.below x ≡ true → K.below (K.neg x) ≡ false
  pub size_neg : (x : K.Num) → K.size (K.neg x) ≡ K.size x
  pub counts_one : K.counts (pos 1) ≡ K.one
  pub counts_sum : (x y : ℤ) → K.counts (x +ℤ y) ≡ K.add (K.counts x) (K.counts y)
  pub counts_product : (x y : ℤ) → K.counts (x *ℤ y) ≡ K.mul (K.counts x) (K.counts y)
  pub counts_written : (x : K.Num) → K.counts (K.writes x) ≡ x

-- that of a and b is that of b and the remainder of a by b, until b is 0; the first number bounds the steps
abbrev pub euclid : ℕ → ℕ → ℕ → ℕ
euclid zero a b = a
euclid (suc steps) a zero = a
euclid (suc steps) a (suc b) = euclid steps (suc b) (a % suc b)

-- the greatest common divisor
unfoldable pub gcd : ℕ → ℕ → ℕ
gcd a b = euclid (suc b) a b

-- whole numbers, with a limit of 1,000,000 either way; a divisor is the greatest common divisor of the sizes
abbrev pub wholes : Kind
wholes = record {
  Num = ℤ;
  zero = pos 0;
  one = pos 1;
  add = ◌+ℤ◌;
  mul = ◌*ℤ◌;
  neg = neg_ℤ;
  is_zero = λ x. (unsigned_abs x == 0);
  divisor = λ x y. pos (gcd (unsigned_abs x) (unsigned_abs y));
  quotient = quot_z;
  below = λ x. int_lt x (pos 0);
  limit = 1000000;
  size = unsigned_abs;
  counts = λ x. x;
  writes = λ x. x;
}

-- whether one of two holds and the other does not
abbrev pub differ : Bool → Bool → Bool
differ a b = cond a (not b) b

-- parities, remainders by 2: true is 1; never below zero, with a limit of 1; every divisor is 1
abbrev pub parities : Kind
parities = record {
  Num = Bool;
  zero = false;
  one = true;
  add = differ;
  mul = ◌&&◌;
  neg = λ x. x;
  is_zero = not;
  divisor = λ x y. true;
  quotient = λ x d. x;
  below = λ x. false;
  limit = 1;
  size = λ x. if x then 1 else 0;
  counts = λ x. (unsigned_abs x % 2 == 1);
  writes = λ x. cond x (pos 1) (pos 0);
}
