use Rattle.std.proofs.Common.{◌≡◌, ◌+◌, ◌*◌, ◌^◌, ◌<◌, ◌≤◌, List, ℤ, pos, negsuc, ◌+ℤ◌, nat_abs, sym, ap, ◌∙◌, subst, ap₂, arith, w64, to_z, of_z}
use lib.Signed.{mag}
use mir.Syntax.{w128}
use Rattle.std.proofs.lemmas.List.{at_drop_more}
use Rattle.std.proofs.lemmas.Int.{ints, to_z-of_z, fits_signed_from_abs}
use Rattle.terms.specs.declared.term.Term.{Term}
use Rattle.terms.specs.Sets.{number_of}
use Rattle.terms.specs.Forms.{value}
use Rattle.terms.specs.Records.{form_in}
use Rattle.terms.proofs.Recorded.{unread}
use Rattle.terms.proofs.Wide.{nat_abs_sum}
use Rattle.terms.proofs.reading.value.Goals as goal

size : (z : ℤ) → mag z < 2 ^ 63 → nat_abs z ≤ 2 ^ 63
size (pos n) h = omega arith
size (negsuc n) h = omega arith

-- a coefficient as the code widens it
widened : (x z : ℤ) → x ≡ to_z w64 (of_z w64 z) → mag z < 2 ^ 63 → to_z w128 (of_z w128 x) ≡ z
widened x z e h = ap (λ (y : ℤ). to_z w128 (of_z w128 y)) (e ∙ to_z-of_z w64 z (record { sfits = h })) ∙ to_z-of_z w128 z (fits_signed_from_abs w128 z (omega (arith, size z h)))

pub loop-t-preserved : goal.loop-t-preserved
loop-t-preserved c =
    let x = c.share.result in
    let s = c.loop-t.sum in
    let T = c.args.form.now in
    let r = number_of c.args.row.now in
    let j = c.loop-t.t-index in
    let b = subst (λ (z : ℤ). nat_abs z ≤ j * 2 ^ 63) c.loop-t.sum-is c.loop-t.invariant.1 in
    let small : nat_abs (s +ℤ x) ≤ (j + 1) * 2 ^ 63 = omega (arith, nat_abs_sum s x, size x c.share.type_inv) in
    let e = ap (λ (z : ℤ). to_z w128 (of_z w128 z)) (ap₂ (λ (a b : ℤ). a +ℤ b) c.loop-t.sum-is (widened c.from-sum.result x c.from-sum.ensures c.share.type_inv))
    ∙ to_z-of_z w128 (s +ℤ x) (fits_signed_from_abs w128 (s +ℤ x) (omega arith)) in
    let d = at_drop_more (λ (ts : List Term). value (form_in ts) r) T j unread c.loop-t-test.true in (
      omega (arith, ints, e, d, c.share.ensures, c.loop-t.invariant.0),
      subst (λ (z : ℤ). nat_abs z ≤ (j + 1) * 2 ^ 63) (sym e) small,
    )
