-- What lib.Bits lacks: or is associative, and subsets.
use Rattle.std.proofs.Common.{◌≡◌, ℕ, zero, suc, ◌/◌, ◌%◌, ◌<◌, Bool, true, false, ◌&&◌, sym, refl, ap, ◌∙◌, ap₂, mod-lt, zero-lt-suc, arith}
use lib.Arith.{bin_ind}
use lib.Bits.{bit_or, or_comm, or_self, or_shr, or_mod}
use Rattle.std.proofs.lemmas.Nat.{le_or_l}
use Rattle.std.proofs.lemmas.Bool.{eqb-true, eq-eqb, ne_eqb, eqb-false}
use Rattle.terms.specs.Forms.{high}

two_pos : zero < 2
two_pos = zero-lt-suc 1

by_digits : (a b : ℕ) → a / 2 ≡ b / 2 → a % 2 ≡ b % 2 → a ≡ b
by_digits a b hi lo = omega arith

not_digit : {A : Type 0} {x : ℕ} → suc (suc x) < 2 → A
not_digit h = absurd (omega arith)

digit_assoc : (x y z : ℕ) → x < 2 → y < 2 → z < 2 → bit_or (bit_or x y) z ≡ bit_or x (bit_or y z)
digit_assoc zero y z hx hy hz = refl
digit_assoc (suc zero) zero z hx hy hz = refl
digit_assoc (suc zero) (suc zero) zero hx hy hz = refl
digit_assoc (suc zero) (suc zero) (suc zero) hx hy hz = refl
digit_assoc (suc zero) (suc zero) (suc (suc z)) hx hy hz = not_digit hz
digit_assoc (suc zero) (suc (suc y)) z hx hy hz = not_digit hy
digit_assoc (suc (suc x)) y z hx hy hz = not_digit hx

pub or_assoc : (a b c : ℕ) → bit_or (bit_or a b) c ≡ bit_or a (bit_or b c)
or_assoc =
    bin_ind (λ (n : ℕ). (b c : ℕ) → bit_or (bit_or n b) c ≡ bit_or n (bit_or b c)) (λ b c. refl)
    (λ n ih b c. by_digits (bit_or (bit_or n b) c) (bit_or n (bit_or b c))
    (or_shr (bit_or n b) c 1 ∙ ap (λ (x : ℕ). bit_or x (c / 2)) (or_shr n b 1) ∙ ih (b / 2) (c / 2)
    ∙ sym (or_shr n (bit_or b c) 1 ∙ ap (bit_or (n / 2)) (or_shr b c 1)))
    (or_mod (bit_or n b) c 1 ∙ ap (λ (x : ℕ). bit_or x (c % 2)) (or_mod n b 1)
    ∙ digit_assoc (n % 2) (b % 2) (c % 2) (mod-lt n two_pos) (mod-lt b two_pos) (mod-lt c two_pos)
    ∙ sym (or_mod n (bit_or b c) 1 ∙ ap (bit_or (n % 2)) (or_mod b c 1))))

-- a set with a wire above every wire of the row is not high
pub low_above : (s r : ℕ) → r < s → high s r ≡ false
low_above s r h = ne_eqb (bit_or s r) r (λ e. let l = le_or_l s r in omega arith)

pub high_self : (s : ℕ) → high s s ≡ true
high_self s = eq-eqb (bit_or s s) s (or_self s)

high_left : (s t r : ℕ) → bit_or (bit_or s t) r ≡ r → bit_or s r ≡ r
high_left s t r e =
    ap (bit_or s) (sym e ∙ or_assoc s t r) ∙ sym (or_assoc s s (bit_or t r)) ∙ ap (λ (x : ℕ). bit_or x (bit_or t r)) (or_self s)
    ∙ sym (or_assoc s t r) ∙ e

high_right : (s t r : ℕ) → bit_or (bit_or s t) r ≡ r → bit_or t r ≡ r
high_right s t r e = high_left t s r (ap (λ (x : ℕ). bit_or x r) (or_comm t s) ∙ e)

high_both : (s t r : ℕ) → bit_or s r ≡ r → bit_or t r ≡ r → bit_or (bit_or s t) r ≡ r
high_both s t r e f = or_assoc s t r ∙ ap (bit_or s) f ∙ e

-- a joined set is high exactly when both are
pub high_join : (s t r : ℕ) → high (bit_or s t) r ≡ (high s r && high t r)
high_join s t r = go (high s r) refl (high t r) refl
  where
    go : (b : Bool) → high s r ≡ b → (d : Bool) → high t r ≡ d → high (bit_or s t) r ≡ (high s r && high t r)
    go true e true f =
        eq-eqb (bit_or (bit_or s t) r) r (high_both s t r (eqb-true (bit_or s r) r e) (eqb-true (bit_or t r) r f))
        ∙ sym (ap₂ (λ (x y : Bool). x && y) e f)
    go true e false f =
        ne_eqb (bit_or (bit_or s t) r) r (λ k. eqb-false (bit_or t r) r f (high_right s t r k))
        ∙ sym (ap₂ (λ (x y : Bool). x && y) e f)
    go false e d f =
        ne_eqb (bit_or (bit_or s t) r) r (λ k. eqb-false (bit_or s r) r e (high_left s t r k))
        ∙ sym (ap (λ (x : Bool). x && high t r) e)
