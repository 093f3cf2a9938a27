use Rattle.std.proofs.Common.{◌≡◌, ◌||◌, ℕ, List, ℤ, negsuc, sym, ◌∙◌, subst, w64, SFits, to_z, of_z}
use Rattle.std.proofs.lemmas.Int.{to_z-of_z}
use Rattle.terms.specs.declared.term.Term.{Term}
use Rattle.terms.specs.Forms.{Form, add_all, add_product, or_form, xor_form}
use Rattle.terms.specs.Laws.{differ}
use Rattle.terms.specs.Records.{form_in, Held}
use Rattle.terms.proofs.Gating.{formed, or_gated, xor_gated}
use Rattle.terms.proofs.gates.sum_less.Goals as goal

-- what is held, with the factor that is meant
with_factor : (z k : ℤ) (p q : Form) (room n : ℕ) (W W' : List Term) → SFits w64 z → z ≡ k
    → Held room (add_product (to_z w64 (of_z w64 z)) (add_all p q) p q) W W' n → Held room (add_product k (add_all p q) p q) W W' n
with_factor z k p q room n W W' f e h = subst (λ k. Held room (add_product k (add_all p q) p q) W W' n) (to_z-of_z w64 z f ∙ e) h

pub returns-clause-or : goal.returns-clause-or
returns-clause-or c e =
    let p = form_in c.args.one.now in
    let q = form_in c.args.other.now in
    let h = with_factor _ (negsuc 0) p q _ _ _ _ c.ranges.factor e c.sum_and_product.ensures in
    (sym c.or_fits.ensures ∙ c.if-not-or_fits.false, formed _ or_form (λ a b. a || b) c.args.one.now c.args.other.now _ _ _ h (or_gated p q))

pub returns-clause-xor : goal.returns-clause-xor
returns-clause-xor c e =
    let p = form_in c.args.one.now in
    let q = form_in c.args.other.now in
    let h = with_factor _ (negsuc 1) p q _ _ _ _ c.ranges.factor e c.sum_and_product.ensures in
    (sym c.or_fits.ensures ∙ c.if-not-or_fits.false, formed _ xor_form differ c.args.one.now c.args.other.now _ _ _ h (xor_gated p q))
