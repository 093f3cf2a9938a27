use Rattle.std.proofs.Common.{◌≡◌, ℕ, ◌+◌, ◌*◌, ◌^◌, List, ◌++◌, length, take, drop, ℤ, pos, nat_abs, sym, refl, ap, ◌∙◌, ap₂, arith, w64}
use Rattle.std.proofs.lemmas.Nat.{mul-le}
use Rattle.std.proofs.lemmas.List.{take_at}
use Rattle.std.proofs.lemmas.Slice.{drop-append-drop}
use Rattle.std.proofs.lemmas.Int.{to_z-of_z}
use Rattle.terms.specs.declared.term.Term.{Term}
use Rattle.terms.specs.Forms.{Form, norm, add_all, scaled, add_product}
use Rattle.terms.specs.Records.{form_in}
use Rattle.terms.proofs.Blanked.{settled}
use Rattle.terms.proofs.Fitting.{gate_parts, scaled_one}
use Rattle.terms.proofs.Norms.{add_all_norm, twice_light}
use Rattle.terms.proofs.Recorded.{drop_later, onward}
use Rattle.terms.proofs.gates.sum_and_product.Goals as goal

-- the records copied in front
front : (W W' ts : List Term) (n : ℕ) → n ≡ length ts → W' ≡ ts ++ drop (length ts) W → form_in (take n W') ≡ form_in ts
front W W' ts n e f = ap form_in (ap (take n) f ∙ take_at ts (drop (length ts) W) n (sym e))

-- the sum, from the form of one and once the other
summed : (F p q : Form) → F ≡ p → add_all F (scaled 0 (pos 1) q) ≡ add_all p q
summed F p q e = ap₂ (λ (x y : Form). add_all x y) e (scaled_one q)

pub put_into-len-requires-clause-fits : goal.put_into-len-requires-clause-fits
put_into-len-requires-clause-fits c =
    let A = c.args.one.now in
    let B = c.args.other.now in
    let k = c.args.factor in
    let h = gate_parts (length A + length B + length A * length B) c.args.work.now A B c.requires.fits in
    let e = front c.args.work.now c.put_form-copied.new.work A c.put_form-copied.result c.put_form-copied.ensures.size c.put_form-copied.ensures.whole in
    let f = c.put_into-used.ensures.form ∙ summed _ (form_in A) (form_in B) e in
    let m = mul-le (nat_abs k) (norm (form_in A)) 2 (2 ^ 30) c.requires.few (omega arith) in
    let n = twice_light (nat_abs k) (norm (form_in A)) (norm (form_in B)) c.requires.few h.1 h.2 in
    let z = to_z-of_z w64 k c.ranges.factor in
    rw z (omega (arith, ap norm f, add_all_norm (form_in A) (form_in B)))

pub returns : goal.returns
returns c =
    let A = c.args.one.now in
    let B = c.args.other.now in
    let W = c.args.work.now in
    let W₁ = c.put_form-copied.new.work in
    let W₂ = c.put_into-used.new.work in
    let N = length A + length B + length A * length B in
    let e = front W W₁ A c.put_form-copied.result c.put_form-copied.ensures.size c.put_form-copied.ensures.whole in
    let f = c.put_into-used.ensures.form ∙ summed _ (form_in A) (form_in B) e in
    settled N c.put_into-len.result _ W _ _ N c.blank_behind.ensures.whole c.blank_behind.ensures.terms refl
    (onward (c.put_into-used.result + length A * length B) N c.put_into-len.result _ _ W₂ c.put_into-len.new.work W c.put_into-len.ensures
    (ap₂ (λ (k : ℤ) (x : Form). add_product k x (form_in A) (form_in B)) (to_z-of_z w64 c.args.factor c.ranges.factor) f)
    (omega (arith, c.put_into-used.ensures.bound))
    (drop_later (c.put_form-copied.result + length B) N W₂ W₁ (omega arith) c.put_into-used.ensures.rest
    ∙ ap (drop N) c.put_form-copied.ensures.whole ∙ drop-append-drop (length A) W A N (omega arith) refl))
