use Rattle.std.proofs.Common.{◌≡◌, ℕ, ◌+◌, ◌-◌, ◌^◌, ◌<◌, ◌≤◌, Bool, true, false, ltb, List, length, get_or, take, drop, ℤ, ◌+ℤ◌, nat_abs, sym, refl, ap, ◌∙◌, subst, ap₂, arith, w64, SFits, to_z, of_z}
use Rattle.std.proofs.lemmas.List.{length-set, drop-set-lt}
use Rattle.std.proofs.lemmas.Bool.{ltb-true, ltb-false}
use Rattle.terms.specs.declared.term.Term.{Term}
use Rattle.terms.specs.Sets.{number_of}
use Rattle.terms.specs.Forms.{norm}
use Rattle.terms.specs.Records.{form_in}
use Rattle.terms.proofs.Inserts.{opened_form, kept_form, closed_form, summed_form}
use Rattle.terms.proofs.Norms.{norm_at}
use Rattle.terms.proofs.Over.{opened_rest, closed_rest}
use Rattle.terms.proofs.Recorded.{unread, holding}
use Rattle.std.proofs.lemmas.Int.{fits_signed_from_abs}
use Rattle.terms.proofs.Wide.{back, nat_abs_sum, null_of, whole_of}
use Rattle.terms.proofs.merging.put_term.Goals as goal
use Rattle.terms.proofs.merging.put_term.Goals.{else-i-used-via-then-i-used+else-not-before, else-i-used-via-else-i-used}

-- what the code has for a sum
coded : (a b : ℤ) → nat_abs a + nat_abs b < 2 ^ 63 → to_z w64 (of_z w64 a) +ℤ to_z w64 (of_z w64 b) ≡ a +ℤ b
coded a b h = ap₂ (λ (x y : ℤ). x +ℤ y) (back a (omega arith)) (back b (omega arith))

sum_fits : (a b : ℤ) → nat_abs a + nat_abs b < 2 ^ 63 → nat_abs (a +ℤ b) < 2 ^ 63
sum_fits a b h = omega (arith, nat_abs_sum a b)

-- the term and the record at its place fit together
both_fit : (a : ℤ) (W : List Term) (n i : ℕ) → n < length W → i < n → norm (form_in (take n W)) + nat_abs a < 2 ^ 63
    → nat_abs a + nat_abs (get_or W i unread).coefficient < 2 ^ 63
both_fit a W n i h l f = omega (arith, norm_at unread W n i (omega arith) l)

-- a set that is not above the one at its place, and does not come before it, is the same
same_set : (s w : ℕ) (r : Bool) → s ≤ w → r ≡ ltb s w → r ≡ false → w ≡ s
same_set s w r l e f = omega (arith, ltb-false s w (sym e ∙ f))

-- a set that comes before another is not the same
apart : (s w : ℕ) (r : Bool) → r ≡ ltb s w → r ≡ true → w ≡ s → ⊥
apart s w r e f g = omega (arith, ltb-true s w (sym e ∙ f))

pub overflow_add-sum : goal.overflow_add-sum
overflow_add-sum c =
    let a = c.args.t.coefficient in
    let d = (get_or c.args.work.now c.place-i.result unread).coefficient in
    let b = both_fit a c.args.work.now c.args.used c.place-i.result c.requires.room c.if-i-used.true c.requires.fits in
    subst (SFits w64) (sym (coded a d b)) (fits_signed_from_abs w64 (a +ℤ d) (sum_fits a d b))

pub returns-then-sum-eq0 : goal.returns-then-sum-eq0
returns-then-sum-eq0 c =
    let a = c.args.t.coefficient in
    let d = (get_or c.args.work.now c.place-i.result unread).coefficient in
    let b = both_fit a c.args.work.now c.args.used c.place-i.result c.requires.room c.if-i-used.true c.requires.fits in
    let n = same_set _ _ _ (c.place-i.ensures.here unread c.if-i-used.true) c.before-then-i-used.ensures c.if-not-before.true in
    holding _ _ _ c.args.work.now _ (omega arith) (omega arith)
    (ap (λ x. form_in (take (c.args.used - 1) x)) c.close_at.ensures
    ∙ closed_form c.args.work.now c.args.used c.place-i.result c.args.t unread c.requires.room c.place-i.ensures c.if-i-used.true n
    (null_of (a +ℤ d) (sum_fits a d b) (ap (of_z w64) (sym (coded a d b)) ∙ c.if-sum-eq0.true)))
    (ap (drop (c.args.used + 1)) c.close_at.ensures ∙ closed_rest c.args.work.now c.args.used c.place-i.result c.requires.room c.if-i-used.true)

pub returns-then-not-before : goal.returns-then-not-before
returns-then-not-before c =
    let a = c.args.t.coefficient in
    let d = (get_or c.args.work.now c.place-i.result unread).coefficient in
    let b = both_fit a c.args.work.now c.args.used c.place-i.result c.requires.room c.if-i-used.true c.requires.fits in
    let n = same_set _ _ _ (c.place-i.ensures.here unread c.if-i-used.true) c.before-then-i-used.ensures c.if-not-before.true in
    let f = ap (λ z. to_z w64 (of_z w64 z)) (coded a d b) ∙ back (a +ℤ d) (sum_fits a d b) in
    holding _ _ _ c.args.work.now _ (simp length-set (omega arith)) (omega arith)
    (summed_form c.args.work.now c.args.used c.place-i.result c.args.t unread _ c.requires.room c.place-i.ensures c.if-i-used.true n
    (whole_of (a +ℤ d) (λ z. c.if-sum-eq0.false (ap (of_z w64) (coded a d b) ∙ z)))
    (λ i. (n i, f i)))
    (drop-set-lt (c.args.used + 1) c.args.work.now c.place-i.result _ (omega arith))

pub returns-then-t-eq0 : goal.returns-then-t-eq0
returns-then-t-eq0 c = holding _ _ _ c.args.work.now _ (omega arith) (omega arith)
    (kept_form c.args.work.now c.args.used c.place-i.result c.args.t unread c.requires.room c.place-i.ensures
    (elim c.else-i-used.branch [
      | else-i-used-via-then-i-used+else-not-before w ↦ λ l. apart (number_of c.args.t.set) (number_of (get_or c.args.work.now c.place-i.result unread).set) w.before-then-i-used.result w.before-then-i-used.ensures w.if-not-before.false
      | else-i-used-via-else-i-used w ↦ λ l e. omega (arith, w.if-i-used.false)
    ])
    (null_of c.args.t.coefficient (omega arith) c.if-t-eq0.true))
    refl

pub returns : goal.returns
returns c = holding _ _ _ c.args.work.now _ (omega arith) (omega arith)
    (ap (λ x. form_in (take (c.args.used + 1) x)) c.open_at.ensures
    ∙ opened_form c.args.work.now c.args.used c.place-i.result c.args.t unread c.requires.room c.place-i.ensures
    (elim c.else-i-used.branch [
      | else-i-used-via-then-i-used+else-not-before w ↦ λ l. apart (number_of c.args.t.set) (number_of (get_or c.args.work.now c.place-i.result unread).set) w.before-then-i-used.result w.before-then-i-used.ensures w.if-not-before.false
      | else-i-used-via-else-i-used w ↦ λ l e. omega (arith, w.if-i-used.false)
    ])
    (whole_of c.args.t.coefficient c.if-t-eq0.false))
    (ap (drop (c.args.used + 1)) c.open_at.ensures ∙ opened_rest c.args.work.now c.args.used c.place-i.result c.args.t c.requires.room c.place-i.ensures.within)
