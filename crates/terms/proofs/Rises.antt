-- What is added to a rising form leaves it rising.
use Rattle.std.proofs.Common.{◌≡◌, ℕ, suc, ◌≤◌, false, cond, eqb, ltb, [], ◌∷◌, ℤ, pos, negsuc, ◌+ℤ◌, ◌*ℤ◌, nat_abs, subst, arith}
use Rattle.std.proofs.lemmas.Int.{ints}
use Rattle.std.proofs.lemmas.Bool.{cond_both, eqb-false, ltb-true, ltb-false}
use Rattle.terms.specs.Forms.{Form, Rising, insert, keep, add_all, scaled, add_product, one_form}
use Rattle.terms.specs.Laws.{Rises}

null_false : (c : ℤ) → eqb (nat_abs c) 0 ≡ false → c ≡ pos 0 → ⊥
null_false (pos n) e f = eqb-false n 0 e (omega (arith, ints))
null_false (negsuc n) e f = omega (arith, ints)

pub rising_from : (lo lo' : ℕ) (p : Form) → lo' ≤ lo → Rising lo p → Rising lo' p
rising_from lo lo' [] h w = tt
rising_from lo lo' (t ∷ p) h w = (omega arith, w.1, w.2)

keep_rising : (lo s : ℕ) (c : ℤ) (p : Form) → lo ≤ s → Rising (suc s) p → Rising lo (keep s c p)
keep_rising lo s c p h w =
    cond_both (eqb (nat_abs c) 0) p ((s, c) ∷ p) (Rising lo) (λ _. rising_from (suc s) lo p (omega arith) w) (λ e. (h, null_false c e, w))

pub insert_rising : (lo s : ℕ) (c : ℤ) (p : Form) → lo ≤ s → Rising lo p → Rising lo (insert s c p)
insert_rising lo s c [] h w = keep_rising lo s c [] h tt
insert_rising lo s c (t ∷ p) h w = go (insert_rising (suc t.0) s c p)
  where
    go : (suc t.0 ≤ s → Rising (suc t.0) p → Rising (suc t.0) (insert s c p)) → Rising lo (insert s c (t ∷ p))
    go ih =
        cond_both (ltb s t.0) (keep s c (t ∷ p)) (cond (ltb t.0 s) (t ∷ insert s c p) (keep s (c +ℤ t.1) p)) (Rising lo)
        (λ e. keep_rising lo s c (t ∷ p) h (ltb-true s t.0 e, w.1, w.2))
        (λ e. cond_both (ltb t.0 s) (t ∷ insert s c p) (keep s (c +ℤ t.1) p) (Rising lo)
        (λ f. (w.0, w.1, ih (ltb-true t.0 s f) w.2))
        (λ f. let same : t.0 ≡ s = omega (arith, ltb-false s t.0 e, ltb-false t.0 s f) in
        keep_rising lo s (c +ℤ t.1) p h (subst (λ (n : ℕ). Rising (suc n) p) same w.2)))

pub add_all_rising : (p q : Form) → Rising 0 p → Rising 0 (add_all p q)
add_all_rising p [] w = w
add_all_rising p (t ∷ q) w = add_all_rising (insert t.0 t.1 p) q (insert_rising 0 t.0 t.1 p (omega arith) w)

pub add_product_rising : (k : ℤ) (p a b : Form) → Rising 0 p → Rising 0 (add_product k p a b)
add_product_rising k p [] b w = w
add_product_rising k p (t ∷ a) b w =
    add_product_rising k (add_all p (scaled t.0 (k *ℤ t.1) b)) a b (add_all_rising p (scaled t.0 (k *ℤ t.1) b) w)

pub one_rising : Rising 0 one_form
one_rising = (omega arith, (λ e. omega (arith, ints)), tt)

pub rises : Rises
rises = record { terms = λ s c p w. insert_rising 0 s c p (omega arith) w; sums = add_all_rising; products = add_product_rising }
