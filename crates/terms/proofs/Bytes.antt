-- Bytes and the numbers that they spell.
use Rattle.std.proofs.Common.{◌≡◌, ℕ, zero, suc, ◌+◌, ◌*◌, ◌/◌, ◌%◌, ◌^◌, ◌<◌, List, [], ◌∷◌, length, get_or, set, replicate, sym, refl, ap, ◌∙◌, ap₂, mul_assoc, pow-suc, arith}
use native.Mathlib.Nat.{div-div-eq-div-mul}
use Rattle.terms.specs.Sets.{number_of, bytes_of}

-- n bytes of a number, from that of weight d on, as the library's conversions write them
abbrev pub digits : ℕ → ℕ → ℕ → List ℕ
digits s d zero = []
digits s d (suc n) = s / d % 256 ∷ digits s (d * 256) n

digits_bytes : (s d n : ℕ) → digits s d n ≡ bytes_of n (s / d)
digits_bytes s d zero = refl
digits_bytes s d (suc n) =
    ap (λ (x : List ℕ). s / d % 256 ∷ x) (digits_bytes s (d * 256) n ∙ ap (bytes_of n) (sym (div-div-eq-div-mul s d 256)))

pub digits_all : (s : ℕ) → s % 256 ∷ digits s 256 15 ≡ bytes_of 16 s
digits_all s = ap (λ (x : List ℕ). s % 256 ∷ x) (digits_bytes s 256 15)

pub number_bytes : (n s : ℕ) → s < 256 ^ n → number_of (bytes_of n s) ≡ s
number_bytes zero s h = omega arith
number_bytes (suc n) s h =
    let p = pow-suc 256 n in
    let e = number_bytes n (s / 256) (omega arith) in
    ap (λ (x : ℕ). s % 256 + 256 * x) e ∙ whole
  where
    whole : s % 256 + 256 * (s / 256) ≡ s
    whole = omega arith

-- what a conversion wrote spells the number
pub number_written : (s : ℕ) (bs : List ℕ) → s < 2 ^ 128 → bs ≡ s % 256 ∷ digits s 256 15 → number_of bs ≡ s
number_written s bs h e = ap number_of (e ∙ digits_all s) ∙ number_bytes 16 s h

-- bytes are those of the number that they spell
pub bytes_number : (bs : List ℕ) → ((k : ℕ) → k < length bs → get_or bs k 0 < 256) → bytes_of (length bs) (number_of bs) ≡ bs
bytes_number [] h = refl
bytes_number (b ∷ bs) h =
    ap₂ (λ (x : ℕ) (xs : List ℕ). x ∷ xs) low (ap (bytes_of (length bs)) rest ∙ bytes_number bs (λ k l. h (suc k) (omega arith)))
  where
    byte : b < 256
    byte = h 0 (omega arith)

    low : (b + 256 * number_of bs) % 256 ≡ b
    low = omega (arith, byte)

    rest : (b + 256 * number_of bs) / 256 ≡ number_of bs
    rest = omega (arith, byte)

number_none : (n : ℕ) → number_of (replicate n 0) ≡ 0
number_none zero = refl
number_none (suc n) = ap (λ (x : ℕ). 0 + 256 * x) (number_none n)

-- one byte alone
pub number_marked : (n q v : ℕ) → q < n → number_of (set (replicate n 0) q v) ≡ v * 256 ^ q
number_marked zero q v h = absurd (omega arith)
number_marked (suc n) zero v h = ap (λ (x : ℕ). v + 256 * x) (number_none n) ∙ plain v
  where
    plain : (v : ℕ) → v + 256 * 0 ≡ v * 256 ^ 0
    plain v = omega arith
number_marked (suc n) (suc q) v h =
    ap (λ (x : ℕ). 0 + 256 * x) (number_marked n q v (omega arith)) ∙ up
  where
    up : 0 + 256 * (v * 256 ^ q) ≡ v * 256 ^ suc q
    up = let p = ap (λ (x : ℕ). v * x) (pow-suc 256 q) ∙ sym (mul_assoc v (256 ^ q) 256) in omega arith
