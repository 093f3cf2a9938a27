-- What the tests of a call's records and operands say.
use Rattle.std.proofs.Common.{◌≡◌, ℕ, ◌+◌, ◌*◌, ◌^◌, ◌<◌, ◌≤◌, true, ◌&&◌, ltb, leb, List, [], ◌∷◌, length, take, set, ℤ, pos, ◌+ℤ◌, ◌*ℤ◌, nat_abs, refl, ap, ◌∙◌, ap₂, arith}
use lib.IntN.{suc_ℤ-*ℤ, zero-*ℤ, +ℤ_idl}
use Rattle.std.proofs.lemmas.Bool.{and_parts, leb-true, ltb-true}
use Rattle.terms.specs.declared.term.Term.{Term}
use Rattle.terms.specs.Forms.{Form, norm, scaled}
use Rattle.terms.specs.Records.{form_in, light, bearable, product_fits, gate_fits}

light_parts : (p q : List Term) → (light p && light q) ≡ true → (norm (form_in p) < 2 ^ 30) × (norm (form_in q) < 2 ^ 30)
light_parts p q e =
    let a = and_parts (light p) (light q) e in
    (ltb-true (norm (form_in p)) (2 ^ 30) a.0, ltb-true (norm (form_in q)) (2 ^ 30) a.1)

bearable_norm : (W : List Term) (n : ℕ) → bearable W n ≡ true → norm (form_in (take n W)) < 2 ^ 62
bearable_norm W n e = ltb-true (norm (form_in (take n W))) (2 ^ 62) (and_parts (leb n (length W)) (ltb (norm (form_in (take n W))) (2 ^ 62)) e).1

pub product_parts : (W : List Term) (n : ℕ) (k : ℤ) (p q : List Term) → product_fits W n k p q ≡ true
    → (norm (form_in (take n W)) < 2 ^ 62) × (n + length p * length q ≤ length W) × (nat_abs k ≤ 2) × (norm (form_in p) < 2 ^ 30) × (norm (form_in q) < 2 ^ 30)
product_parts W n k p q e =
    let a = and_parts (bearable W n) (leb (n + length p * length q) (length W) && (leb (nat_abs k) 2 && (light p && light q))) e in
    let b = and_parts (leb (n + length p * length q) (length W)) (leb (nat_abs k) 2 && (light p && light q)) a.1 in
    let d = and_parts (leb (nat_abs k) 2) (light p && light q) b.1 in
    let l = light_parts p q d.1 in
    (bearable_norm W n a.0, leb-true (n + length p * length q) (length W) b.0, leb-true (nat_abs k) 2 d.0, l.0, l.1)

pub gate_parts : (n : ℕ) (W p q : List Term) → gate_fits n W p q ≡ true → (n ≤ length W) × (norm (form_in p) < 2 ^ 30) × (norm (form_in q) < 2 ^ 30)
gate_parts n W p q e =
    let a = and_parts (leb n (length W)) (light p && light q) e in
    let l = light_parts p q a.1 in
    (leb-true n (length W) a.0, l.0, l.1)

one_times : (c : ℤ) → pos 1 *ℤ c ≡ c
one_times c = suc_ℤ-*ℤ (pos 0) c ∙ ap (λ (z : ℤ). z +ℤ c) (zero-*ℤ c) ∙ +ℤ_idl c

-- a form itself, once
pub scaled_one : (p : Form) → scaled 0 (pos 1) p ≡ p
scaled_one [] = refl
scaled_one (t ∷ p) = ap₂ (λ (x : ℕ × ℤ) (y : Form). x ∷ y) (λ i. (t.0, one_times t.1 i)) (scaled_one p)

-- a record put first
pub first_put : (W : List Term) (t : Term) → 0 < length W → take 1 (set W 0 t) ≡ t ∷ []
first_put [] t h = absurd (omega arith)
first_put (w ∷ W) t h = refl
