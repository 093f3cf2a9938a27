-- Euclid's number divides both, and is the greatest that does.
use Rattle.std.specs.Prelude.{ℕ, zero, suc, ◌%◌, ◌<◌, refl}
use Rattle.std.proofs.Common.{mod-lt, arith}
use Rattle.std.specs.Int.{IsGcd}
use Rattle.std.proofs.lemmas.Nat.Gcd.{IsGcd-from_zero, IsGcd-from_mod}
use Rattle.kinds.specs.Kinds.{euclid, gcd}

euclid_is : (k a b : ℕ) → b < k → IsGcd a b (euclid k a b)
euclid_is zero a b h = absurd (omega arith)
euclid_is (suc k) a zero h = IsGcd-from_zero a 0 refl
euclid_is (suc k) a (suc b) h =
    let pos : 0 < suc b = omega arith in
    let less : a % suc b < suc b = mod-lt a pos in
    IsGcd-from_mod a (suc b) (euclid k (suc b) (a % suc b)) (euclid_is k (suc b) (a % suc b) (omega arith))

pub gcd_is : (a b : ℕ) → IsGcd a b (gcd a b)
unfolding gcd
gcd_is a b = euclid_is (suc b) a b (omega arith)
