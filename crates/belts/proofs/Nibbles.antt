-- What a put and a take do to words of four bits in one number. Assumes nothing.
use Rattle.std.proofs.Common.{◌≡◌, ℕ, zero, suc, ◌+◌, ◌-◌, ◌*◌, ◌/◌, ◌%◌, ◌^◌, ◌<◌, true, [], ◌∷◌, ◌++◌, length, sym, refl, ap, ◌∙◌, mul_assoc, mul_comm, arith}
use lib.Bits.{bit_and, bit_or}
use Rattle.std.proofs.lemmas.Nat.{pow-add, and_mask, or_comm, or_shifted, shl_whole, mul-le}
use Rattle.std.proofs.lemmas.Bool.Decides.{nat_tests}
use Rattle.belts.specs.Belts.{counted, roomy}
use Rattle.belts.specs.Layouts.{unpacked, row_of}
use Rattle.belts.specs.declared.row.PackedRow.{PackedRow}

pub length_unpacked : (n b : ℕ) → length (unpacked n b) ≡ n
length_unpacked zero b = refl
length_unpacked (suc n) b = ap suc (length_unpacked n (b / 16))

pub pow_nibble : (n : ℕ) → 2 ^ (4 * suc n) ≡ 16 * 2 ^ (4 * n)
pow_nibble n = let e : 4 * suc n ≡ 4 + 4 * n = omega arith in rw e (pow-add 2 4 (4 * n))

pub unpacked_put : (n b w : ℕ) → b < 2 ^ (4 * n) → w < 16 → unpacked (suc n) (w * 2 ^ (4 * n) + b) ≡ unpacked n b ++ (w ∷ [])
unpacked_put zero b w below small =
    let e : (w * 2 ^ (4 * 0) + b) % 16 ≡ w = omega arith in ap (λ x. x ∷ []) e
unpacked_put (suc n) b w below small =
    let p = pow_nibble n in
    let q : w * 2 ^ (4 * suc n) ≡ 16 * (w * 2 ^ (4 * n)) = rw p (sym (mul_assoc w 16 (2 ^ (4 * n))) ∙ ap (λ x. x * 2 ^ (4 * n)) (mul_comm w 16) ∙ mul_assoc 16 w (2 ^ (4 * n))) in
    let m : (w * 2 ^ (4 * suc n) + b) % 16 ≡ b % 16 = omega arith in
    let d : (w * 2 ^ (4 * suc n) + b) / 16 ≡ w * 2 ^ (4 * n) + b / 16 = omega arith in
    let h = unpacked_put n (b / 16) w (omega arith) small in
    let t : unpacked (suc n) ((w * 2 ^ (4 * suc n) + b) / 16) ≡ unpacked n (b / 16) ++ (w ∷ []) = rw d h in
    cc

pub joined_put : (n b w : ℕ) → n < 16 → b < 2 ^ (4 * n) → w < 16 → bit_or b ((w * 2 ^ (4 * n)) % 2 ^ 64) ≡ w * 2 ^ (4 * n) + b
joined_put n b w few below small = rw (shl_whole w 4 (4 * n) 64 small (omega arith)) (or_comm b (w * 2 ^ (4 * n)) ∙ or_shifted w (4 * n) b below)

pub below_put : (n b w : ℕ) → b < 2 ^ (4 * n) → w < 16 → w * 2 ^ (4 * n) + b < 2 ^ (4 * (n + 1))
below_put n b w below small =
    let e : n + 1 ≡ suc n = omega arith in
    let p = pow_nibble n in
    let l = mul-le w (2 ^ (4 * n)) 15 (2 ^ (4 * n)) (omega arith) (omega arith) in
    rw e (omega arith)

pub below_take : (n b : ℕ) → 0 < n → b < 2 ^ (4 * n) → b / 16 < 2 ^ (4 * (n - 1))
below_take zero b some below = elim some [ ]
below_take (suc n) b some below =
    let e : suc n - 1 ≡ n = omega arith in
    let p = pow_nibble n in
    rw e (omega arith)

-- the same of a row, by the facts in its type
module _ (r : PackedRow) where
  pub row_counted : counted (row_of r) ≡ r.count
  row_counted = let e = length_unpacked r.count r.bits in omega arith

  pub row_open : roomy (row_of r) ≡ true → r.count < r.places
  row_open room = let e = row_counted in grind (arith, nat_tests)
