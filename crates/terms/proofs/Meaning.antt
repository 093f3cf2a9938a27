-- Sets and rows by their wires.
use Rattle.std.proofs.Common.{◌≡◌, ℕ, zero, suc, ◌+◌, ◌-◌, ◌*◌, ◌/◌, ◌%◌, ◌^◌, ◌<◌, ◌≤◌, Bool, true, false, eqb, ◌⊎◌, [], ◌∷◌, get_or, sym, refl, ap, ◌∙◌, ap₂, inl, inr, arith}
use native.Mathlib.Nat.{zero-div}
use lib.Arith.{bin_ind}
use lib.Bits.{bit_or, or_step, or_shr, or_mod}
use Rattle.std.proofs.lemmas.Nat.{shr-shr}
use Rattle.std.proofs.lemmas.Bool.{cases_lt, eqb-true, eq-eqb}
use Rattle.terms.specs.Sets.{number_of, holds}
use Rattle.terms.specs.Forms.{row_of, high, bit}
use Rattle.terms.specs.Laws.{WiresByBytes, RowsByWires, HighMeansAll}

-- wire j + k of s is wire k of s without its lowest j wires
shifted : (s j k : ℕ) → holds (s / 2 ^ j) k ≡ holds s (j + k)
shifted s j k = ap (λ (x : ℕ). eqb (x % 2) 1) (shr-shr s j k)

none : (n : ℕ) → holds 0 n ≡ false
none n = ap (λ (x : ℕ). eqb (x % 2) 1) (zero-div (2 ^ n))

-- ---- bytes

past : {A : Type 0} (n : ℕ) → suc (suc (suc (suc (suc (suc (suc (suc n))))))) < 8 → A
past n h = absurd (omega arith)

low_byte : (b x n : ℕ) → n < 8 → (b + 256 * x) / 2 ^ n % 2 ≡ b / 2 ^ n % 2
low_byte b x zero h = omega arith
low_byte b x (suc zero) h = omega arith
low_byte b x (suc (suc zero)) h = omega arith
low_byte b x (suc (suc (suc zero))) h = omega arith
low_byte b x (suc (suc (suc (suc zero)))) h = omega arith
low_byte b x (suc (suc (suc (suc (suc zero))))) h = omega arith
low_byte b x (suc (suc (suc (suc (suc (suc zero)))))) h = omega arith
low_byte b x (suc (suc (suc (suc (suc (suc (suc zero))))))) h = omega arith
low_byte b x (suc (suc (suc (suc (suc (suc (suc (suc n)))))))) h = past n h

pub wires_by_bytes : WiresByBytes
wires_by_bytes [] h n = none n ∙ sym (none (n % 8))
wires_by_bytes (b ∷ bs) h n = go (cases_lt n 8) (wires_by_bytes bs (λ k. h (suc k)))
  where
    go : ((n < 8) ⊎ (8 ≤ n)) → ((m : ℕ) → holds (number_of bs) m ≡ holds (get_or bs (m / 8) 0) (m % 8))
        → holds (b + 256 * number_of bs) n ≡ holds (get_or (b ∷ bs) (n / 8) 0) (n % 8)
    go (inl l) ih =
        let q : n / 8 ≡ 0 = omega arith in
        let r : n % 8 ≡ n = omega arith in
        ap (λ (x : ℕ). eqb x 1) (low_byte b (number_of bs) n l) ∙ sym (ap₂ (λ (x y : ℕ). holds (get_or (b ∷ bs) x 0) y) q r)
    go (inr l) ih =
        let byte = h 0 in
        let up : (b + 256 * number_of bs) / 2 ^ 8 ≡ number_of bs = omega arith in
        let m : 8 + (n - 8) ≡ n = omega arith in
        let q : n / 8 ≡ suc ((n - 8) / 8) = omega arith in
        let r : n % 8 ≡ (n - 8) % 8 = omega arith in
        sym (ap (holds (b + 256 * number_of bs)) m) ∙ sym (shifted (b + 256 * number_of bs) 8 (n - 8)) ∙ ap (λ (x : ℕ). holds x (n - 8)) up
        ∙ ih (n - 8) ∙ sym (ap₂ (λ (x y : ℕ). holds (get_or (b ∷ bs) x 0) y) q r)

-- ---- rows

half : (b : Bool) (n : ℕ) → (bit b + 2 * n) / 2 ^ 1 ≡ n
half true n = omega arith
half false n = omega arith

pub rows_by_wires : RowsByWires
rows_by_wires [] n = none n
rows_by_wires (b ∷ row) (suc n) =
    ap (holds (row_of (b ∷ row))) one_more ∙ sym (shifted (row_of (b ∷ row)) 1 n) ∙ ap (λ (x : ℕ). holds x n) (half b (row_of row)) ∙ rows_by_wires row n
  where
    one_more : suc n ≡ 1 + n
    one_more = omega arith
rows_by_wires (true ∷ row) zero = eq-eqb ((1 + 2 * row_of row) / 1 % 2) 1 (omega arith)
rows_by_wires (false ∷ row) zero = ap (λ (x : ℕ). eqb x 1) even
  where
    even : (0 + 2 * row_of row) / 1 % 2 ≡ 0
    even = omega arith

-- ---- all high

or_one : (y : ℕ) → y < 2 → bit_or 1 y ≡ 1
or_one zero h = refl
or_one (suc zero) h = refl
or_one (suc (suc y)) h = absurd (omega arith)

each_high : (s r : ℕ) → high s r ≡ true → (n : ℕ) → holds s n ≡ true → holds r n ≡ true
each_high s r e n h =
    let low : r / 2 ^ n % 2 < 2 = omega arith in
    eq-eqb (r / 2 ^ n % 2) 1
    (sym (ap (λ (x : ℕ). x / 2 ^ n % 2) (eqb-true (bit_or s r) r e))
    ∙ ap (λ (x : ℕ). x % 2) (or_shr s r n) ∙ or_mod (s / 2 ^ n) (r / 2 ^ n) 1
    ∙ ap (λ (x : ℕ). bit_or x (r / 2 ^ n % 2)) (eqb-true (s / 2 ^ n % 2) 1 h) ∙ or_one (r / 2 ^ n % 2) low)

together : (s r : ℕ) → ((n : ℕ) → holds s n ≡ true → holds r n ≡ true) → bit_or s r ≡ r
together =
    bin_ind (λ (s : ℕ). (r : ℕ) → ((n : ℕ) → holds s n ≡ true → holds r n ≡ true) → bit_or s r ≡ r) (λ r h. refl)
    (λ s ih r h.
    let up : bit_or (s / 2) (r / 2) ≡ r / 2 = ih (r / 2) (λ n k. shifted r 1 n ∙ h (1 + n) (sym (shifted s 1 n) ∙ k)) in
    let step = or_step s r in
    let low : s % 2 ≤ r % 2 = lowest s r (h 0) in
    omega arith)
  where
    lowest : (s r : ℕ) → (holds s 0 ≡ true → holds r 0 ≡ true) → s % 2 ≤ r % 2
    lowest s r h = go (s % 2) refl
      where
        go : (d : ℕ) → s % 2 ≡ d → s % 2 ≤ r % 2
        go zero e = omega arith
        go (suc zero) e =
            let one : s / 2 ^ 0 % 2 ≡ 1 = omega arith in
            omega (arith, eqb-true (r / 2 ^ 0 % 2) 1 (h (eq-eqb (s / 2 ^ 0 % 2) 1 one)))
        go (suc (suc d)) e = absurd (omega arith)

pub high_means_all : HighMeansAll
high_means_all s r = (each_high s r, (λ h. eq-eqb (bit_or s r) r (together s r h)))
