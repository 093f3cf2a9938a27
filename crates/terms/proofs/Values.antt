-- The values of sums and products of forms.
use Rattle.std.proofs.Common.{◌≡◌, ℕ, suc, Bool, true, false, cond, ◌&&◌, eqb, ltb, [], ◌∷◌, ℤ, pos, negsuc, ◌+ℤ◌, ◌*ℤ◌, nat_abs, sym, refl, ap, ◌∙◌, ap₂, arith}
use lib.IntN.{+ℤ_idr, +ℤ_idl, zero-*ℤ, *ℤ-zero}
use Rattle.std.proofs.lemmas.Int.{ints}
use Rattle.std.proofs.lemmas.Bool.{cond_both, eq-eqb, eqb-true, ltb-false}
use Rattle.terms.specs.Forms.{Form, high, value, insert, keep, add_all, scaled, add_scaled, add_product}
use Rattle.terms.specs.Laws.{Values}
use Rattle.terms.proofs.BitLaws.{high_join}
use Rattle.terms.proofs.IntLaws.{mul_sum, sum_mul}

-- what a term with coefficient c adds
abbrev pub share : Bool → ℤ → ℤ
share b c = cond b c (pos 0)

pub null_true : (c : ℤ) → eqb (nat_abs c) 0 ≡ true → c ≡ pos 0
null_true (pos n) e = ap pos (eqb-true n 0 e)
null_true (negsuc n) e = absurd (omega (arith, eqb-true (suc n) 0 e))

share_null : (b : Bool) → share b (pos 0) ≡ pos 0
share_null true = refl
share_null false = refl

share_sum : (b : Bool) (c d : ℤ) → share b (c +ℤ d) ≡ share b c +ℤ share b d
share_sum true c d = refl
share_sum false c d = refl

share_product : (a b : Bool) (c d : ℤ) → share (a && b) (c *ℤ d) ≡ share a c *ℤ share b d
share_product true true c d = refl
share_product true false c d = sym (*ℤ-zero c)
share_product false b c d = sym (zero-*ℤ (share b d))

share_scale : (b : Bool) (k c : ℤ) → share b (k *ℤ c) ≡ k *ℤ share b c
share_scale true k c = refl
share_scale false k c = sym (*ℤ-zero k)

keep_value : (s : ℕ) (c : ℤ) (p : Form) (r : ℕ) → value (keep s c p) r ≡ share (high s r) c +ℤ value p r
keep_value s c p r =
    cond_both (eqb (nat_abs c) 0) p ((s, c) ∷ p) (λ (x : Form). value x r ≡ share (high s r) c +ℤ value p r)
    (λ e. sym (ap (λ (z : ℤ). z +ℤ value p r) (ap (share (high s r)) (null_true c e) ∙ share_null (high s r)) ∙ +ℤ_idl (value p r)))
    (λ e. refl)

pub insert_value : (s : ℕ) (c : ℤ) (p : Form) (r : ℕ) → value (insert s c p) r ≡ share (high s r) c +ℤ value p r
insert_value s c [] r = keep_value s c [] r
insert_value s c (t ∷ p) r = go (insert_value s c p r)
  where
    go : value (insert s c p) r ≡ share (high s r) c +ℤ value p r → value (insert s c (t ∷ p)) r ≡ share (high s r) c +ℤ value (t ∷ p) r
    go ih =
        cond_both (ltb s t.0) (keep s c (t ∷ p)) (cond (ltb t.0 s) (t ∷ insert s c p) (keep s (c +ℤ t.1) p))
        (λ (x : Form). value x r ≡ share (high s r) c +ℤ value (t ∷ p) r)
        (λ _. keep_value s c (t ∷ p) r)
        (λ e. cond_both (ltb t.0 s) (t ∷ insert s c p) (keep s (c +ℤ t.1) p)
        (λ (x : Form). value x r ≡ share (high s r) c +ℤ value (t ∷ p) r)
        (λ _. omega (arith, ints))
        (λ f. let same : s ≡ t.0 = omega (arith, ltb-false s t.0 e, ltb-false t.0 s f) in
        let k = ap (λ (n : ℕ). share (high n r) t.1) same in
        let x = keep_value s (c +ℤ t.1) p r in
        let y = share_sum (high s r) c t.1 in
        omega (arith, ints)))

pub add_all_value : (p q : Form) (r : ℕ) → value (add_all p q) r ≡ value p r +ℤ value q r
add_all_value p [] r = sym (+ℤ_idr (value p r))
add_all_value p (t ∷ q) r =
    let ih = add_all_value (insert t.0 t.1 p) q r in
    let x = insert_value t.0 t.1 p r in
    omega (arith, ints)

pub scaled_value : (s : ℕ) (k : ℤ) (q : Form) (r : ℕ) → value (scaled s k q) r ≡ share (high s r) k *ℤ value q r
scaled_value s k [] r = sym (*ℤ-zero (share (high s r) k))
scaled_value s k (t ∷ q) r =
    ap₂ (λ (x y : ℤ). x +ℤ y)
    (ap (λ (b : Bool). share b (k *ℤ t.1)) (high_join s t.0 r) ∙ share_product (high s r) (high t.0 r) k t.1)
    (scaled_value s k q r)
    ∙ sym (mul_sum (share (high s r) k) (share (high t.0 r) t.1) (value q r))

pub empty_high : (r : ℕ) → high 0 r ≡ true
empty_high r = eq-eqb r r refl

pub add_scaled_value : (k : ℤ) (p q : Form) (r : ℕ) → value (add_scaled k p q) r ≡ value p r +ℤ k *ℤ value q r
add_scaled_value k p q r =
    add_all_value p (scaled 0 k q) r
    ∙ ap (λ (z : ℤ). value p r +ℤ z) (scaled_value 0 k q r ∙ ap (λ (b : Bool). share b k *ℤ value q r) (empty_high r))

pub add_product_value : (k : ℤ) (p a b : Form) (r : ℕ) → value (add_product k p a b) r ≡ value p r +ℤ k *ℤ value a r *ℤ value b r
add_product_value k p [] b r =
    sym (+ℤ_idr (value p r)) ∙ ap (λ (z : ℤ). value p r +ℤ z) (sym (ap (λ (z : ℤ). z *ℤ value b r) (*ℤ-zero k) ∙ zero-*ℤ (value b r)))
add_product_value k p (t ∷ a) b r =
    let ih = add_product_value k (add_all p (scaled t.0 (k *ℤ t.1) b)) a b r in
    let x = add_all_value p (scaled t.0 (k *ℤ t.1) b) r in
    let y = scaled_value t.0 (k *ℤ t.1) b r ∙ ap (λ (z : ℤ). z *ℤ value b r) (share_scale (high t.0 r) k t.1) in
    let z = ap (λ (z : ℤ). z *ℤ value b r) (mul_sum k (share (high t.0 r) t.1) (value a r))
    ∙ sum_mul (k *ℤ share (high t.0 r) t.1) (k *ℤ value a r) (value b r) in
    omega (arith, ints)

pub values : Values
values = record { sums = add_all_value; multiples = add_scaled_value; products = add_product_value }
