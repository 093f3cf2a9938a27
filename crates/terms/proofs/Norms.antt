-- Norms grow no faster than what is added.
use Rattle.std.proofs.Common.{◌≡◌, ℕ, zero, suc, ◌+◌, ◌*◌, ◌^◌, ◌<◌, ◌≤◌, cond, eqb, ltb, List, [], ◌∷◌, length, get_or, take, ℤ, ◌+ℤ◌, ◌*ℤ◌, nat_abs, sym, ap, ◌∙◌, ap₂, add-mul, mul-zero, mul-add, arith}
use Rattle.std.proofs.lemmas.Nat.{mul-le}
use Rattle.std.proofs.lemmas.Bool.{cond_both}
use Rattle.terms.specs.declared.term.Term.{Term}
use Rattle.terms.specs.Forms.{Form, norm, keep, insert, add_all, scaled, add_product}
use Rattle.terms.specs.Records.{form_in}
use Rattle.std.proofs.lemmas.Int.{unsigned_abs-mul}
use Rattle.terms.proofs.Wide.{nat_abs_sum}

keep_norm : (s : ℕ) (c : ℤ) (p : Form) → norm (keep s c p) ≤ nat_abs c + norm p
keep_norm s c p = cond_both (eqb (nat_abs c) 0) p ((s, c) ∷ p) (λ (x : Form). norm x ≤ nat_abs c + norm p) (λ _. omega arith) (λ _. omega arith)

pub insert_norm : (s : ℕ) (c : ℤ) (p : Form) → norm (insert s c p) ≤ nat_abs c + norm p
insert_norm s c [] = keep_norm s c []
insert_norm s c (t ∷ p) = go (insert_norm s c p)
  where
    go : norm (insert s c p) ≤ nat_abs c + norm p → norm (insert s c (t ∷ p)) ≤ nat_abs c + norm (t ∷ p)
    go ih =
        cond_both (ltb s t.0) (keep s c (t ∷ p)) (cond (ltb t.0 s) (t ∷ insert s c p) (keep s (c +ℤ t.1) p))
        (λ (x : Form). norm x ≤ nat_abs c + norm (t ∷ p))
        (λ _. keep_norm s c (t ∷ p))
        (λ _. cond_both (ltb t.0 s) (t ∷ insert s c p) (keep s (c +ℤ t.1) p) (λ (x : Form). norm x ≤ nat_abs c + norm (t ∷ p))
        (λ _. omega arith)
        (λ _. omega (arith, keep_norm s (c +ℤ t.1) p, nat_abs_sum c t.1)))

pub scaled_norm : (s : ℕ) (k : ℤ) (q : Form) → norm (scaled s k q) ≡ nat_abs k * norm q
scaled_norm s k [] = sym (mul-zero (nat_abs k))
scaled_norm s k (t ∷ q) =
    ap₂ (λ (x y : ℕ). x + y) (unsigned_abs-mul k t.1) (scaled_norm s k q) ∙ sym (mul-add (nat_abs k) (nat_abs t.1) (norm q))

pub add_all_norm : (p q : Form) → norm (add_all p q) ≤ norm p + norm q
add_all_norm p [] = omega arith
add_all_norm p (t ∷ q) = omega (arith, add_all_norm (insert t.0 t.1 p) q, insert_norm t.0 t.1 p)

-- one factor of a product shared out
pub share_out : (m a b n : ℕ) → m * (a + b) * n ≡ m * a * n + m * b * n
share_out m a b n = ap (λ (x : ℕ). x * n) (mul-add m a b) ∙ add-mul (m * a) (m * b) n

pub add_product_norm : (k : ℤ) (p a b : Form) → norm (add_product k p a b) ≤ norm p + nat_abs k * norm a * norm b
add_product_norm k p [] b = omega arith
add_product_norm k p (t ∷ a) b =
    omega (
      arith,
      add_product_norm k (add_all p (scaled t.0 (k *ℤ t.1) b)) a b,
      add_all_norm p (scaled t.0 (k *ℤ t.1) b),
      scaled_norm t.0 (k *ℤ t.1) b ∙ ap (λ (x : ℕ). x * norm b) (unsigned_abs-mul k t.1),
      share_out (nat_abs k) (nat_abs t.1) (norm a) (norm b),
    )

-- no coefficient is larger than the norm
pub norm_at : (z : Term) (W : List Term) (n i : ℕ) → n ≤ length W → i < n → nat_abs (get_or W i z).coefficient ≤ norm (form_in (take n W))
norm_at z W zero i h l = absurd (omega arith)
norm_at z [] (suc n) i h l = absurd (omega arith)
norm_at z (w ∷ W) (suc n) zero h l = omega arith
norm_at z (w ∷ W) (suc n) (suc i) h l = omega (arith, norm_at z W n i (omega arith) (omega arith))

-- few terms with small coefficients
abbrev pub Small : ℕ → Form → Type 0
Small b [] = Unit {0}
Small b (t ∷ p) = (nat_abs t.1 ≤ b) × Small b p

pub small_norm : (b : ℕ) (p : Form) → Small b p → norm p ≤ length p * b
small_norm b [] s = omega arith
small_norm b (t ∷ p) s = omega (arith, s.0, small_norm b p s.1, add-mul 1 (length p) b)

-- the products of two light operands, at most twice
pub twice_light : (k a b : ℕ) → k ≤ 2 → a < 2 ^ 30 → b < 2 ^ 30 → k * a * b ≤ 2 ^ 61
twice_light k a b h i j = omega (arith, mul-le (k * a) b (2 ^ 31) (2 ^ 30) (omega (arith, mul-le k a 2 (2 ^ 30) h (omega arith))) (omega arith))
