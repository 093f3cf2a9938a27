-- The forms of gates come to what the gates give, and rise.
use Rattle.std.proofs.Common.{◌≡◌, ℕ, Bool, true, false, not, ◌&&◌, ◌||◌, List, [], ℤ, pos, negsuc, ◌+ℤ◌, ◌*ℤ◌, sym, refl, ap, ◌∙◌, subst, ap₂}
use Rattle.terms.specs.declared.term.Term.{Term}
use Rattle.terms.specs.Forms.{Form, bit, value, add_all, add_product, scaled, one_form, not_form, and_form, or_form, xor_form}
use Rattle.terms.specs.Laws.{differ}
use Rattle.terms.specs.Records.{form_in, Held, Gated, Formed}
use Rattle.terms.proofs.Rises.{add_all_rising, add_product_rising, one_rising}
use Rattle.terms.proofs.Values.{share, empty_high, add_all_value, add_scaled_value, add_product_value}

pub one_value : (r : ℕ) → value one_form r ≡ pos 1
one_value r = ap (λ (b : Bool). share b (pos 1) +ℤ pos 0) (empty_high r)

not_bit : (a : Bool) → pos 1 +ℤ negsuc 0 *ℤ pos (bit a) ≡ pos (bit (not a))
not_bit true = refl
not_bit false = refl

and_bit : (a b : Bool) → pos 0 +ℤ pos 1 *ℤ pos (bit a) *ℤ pos (bit b) ≡ pos (bit (a && b))
and_bit true true = refl
and_bit true false = refl
and_bit false true = refl
and_bit false false = refl

or_bit : (a b : Bool) → (pos (bit a) +ℤ pos (bit b)) +ℤ negsuc 0 *ℤ pos (bit a) *ℤ pos (bit b) ≡ pos (bit (a || b))
or_bit true true = refl
or_bit true false = refl
or_bit false true = refl
or_bit false false = refl

xor_bit : (a b : Bool) → (pos (bit a) +ℤ pos (bit b)) +ℤ negsuc 1 *ℤ pos (bit a) *ℤ pos (bit b) ≡ pos (bit (differ a b))
xor_bit true true = refl
xor_bit true false = refl
xor_bit false true = refl
xor_bit false false = refl

pub not_gated : (p : Form) → Gated (λ a b. not a) p p (not_form p)
not_gated p = record {
  counts = λ r a b e f.
      add_scaled_value (negsuc 0) one_form p r ∙ ap₂ (λ (x y : ℤ). x +ℤ negsuc 0 *ℤ y) (one_value r) e ∙ not_bit a;
  rises = λ v w. add_all_rising one_form (scaled 0 (negsuc 0) p) one_rising;
}

pub and_gated : (p q : Form) → Gated (λ a b. a && b) p q (and_form p q)
and_gated p q = record {
  counts = λ r a b e f. add_product_value (pos 1) [] p q r ∙ ap₂ (λ (x y : ℤ). pos 0 +ℤ pos 1 *ℤ x *ℤ y) e f ∙ and_bit a b;
  rises = λ v w. add_product_rising (pos 1) [] p q tt;
}

-- the sum and k times the product
joint : (k : ℤ) (p q : Form) (r : ℕ) (a b : Bool) → value p r ≡ pos (bit a) → value q r ≡ pos (bit b)
    → value (add_product k (add_all p q) p q) r ≡ (pos (bit a) +ℤ pos (bit b)) +ℤ k *ℤ pos (bit a) *ℤ pos (bit b)
joint k p q r a b e f =
    add_product_value k (add_all p q) p q r
    ∙ ap (λ (z : ℤ). z +ℤ k *ℤ value p r *ℤ value q r) (add_all_value p q r)
    ∙ ap₂ (λ (x y : ℤ). (x +ℤ y) +ℤ k *ℤ x *ℤ y) e f

pub or_gated : (p q : Form) → Gated (λ a b. a || b) p q (or_form p q)
or_gated p q = record {
  counts = λ r a b e f. joint (negsuc 0) p q r a b e f ∙ or_bit a b;
  rises = λ v w. add_product_rising (negsuc 0) (add_all p q) p q (add_all_rising p q v);
}

pub xor_gated : (p q : Form) → Gated differ p q (xor_form p q)
xor_gated p q = record {
  counts = λ r a b e f. joint (negsuc 1) p q r a b e f ∙ xor_bit a b;
  rises = λ v w. add_product_rising (negsuc 1) (add_all p q) p q (add_all_rising p q v);
}

-- the form of a gate, held in the first records
pub formed : (room : ℕ) (form : Form → Form → Form) (gate : Bool → Bool → Bool) (one other before after : List Term) (n : ℕ)
    → Held room (form (form_in one) (form_in other)) before after n → Gated gate (form_in one) (form_in other) (form (form_in one) (form_in other))
    → Formed room form gate one other before after n
formed room form gate one other before after n h g = (h, subst (Gated gate (form_in one) (form_in other)) (sym h.form) g)
