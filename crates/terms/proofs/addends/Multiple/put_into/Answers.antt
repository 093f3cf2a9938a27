use Rattle.std.proofs.Common.{◌≡◌, ℕ, ◌+◌, List, get_or, take, drop, ℤ, ◌*ℤ◌, nat_abs, sym, ap, ◌∙◌, ap₂, arith, w64, SFits, rules}
use lib.Bits.{bit_or}
use Rattle.std.proofs.lemmas.List.{at_drop_more}
use Rattle.terms.specs.declared.term.Term.{Term}
use Rattle.terms.specs.Sets.{number_of}
use Rattle.terms.specs.Forms.{Form, norm, insert, add_all, scaled}
use Rattle.terms.specs.Records.{form_in}
use Rattle.terms.proofs.Norms.{insert_norm}
use Rattle.terms.proofs.Recorded.{unread, next_share, drop_later}
use Rattle.std.proofs.lemmas.Int.{unsigned_abs-mul}
use Rattle.terms.proofs.Wide.{made_fits, made_is}
use Rattle.terms.proofs.addends.Multiple.put_into.Goals as goal

pub overflow_mul-t : goal.overflow_mul-t
overflow_mul-t c =
    let K = c.args.self.now.factor in
    let d = (get_or c.args.self.now.form.now c.loop-u.u-index unread).coefficient in
    let g : SFits w64 K = search rules in
    let f : SFits w64 d = search rules in
    let F = form_in (take c.loop-u.n c.loop-u.work) in
    let t = next_share K c.args.self.now.form.now c.loop-u.u-index (norm F) c.loop-u-test.true c.loop-u.invariant.1 in
    made_fits K d g f (omega arith)

pub put_term-n-requires-clause-fits : goal.put_term-n-requires-clause-fits
put_term-n-requires-clause-fits c =
    let K = c.args.self.now.factor in
    let d = (get_or c.args.self.now.form.now c.loop-u.u-index unread).coefficient in
    let g : SFits w64 K = search rules in
    let f : SFits w64 d = search rules in
    let F = form_in (take c.loop-u.n c.loop-u.work) in
    let t = next_share K c.args.self.now.form.now c.loop-u.u-index (norm F) c.loop-u-test.true c.loop-u.invariant.1 in
    omega (arith, ap nat_abs (made_is K d g f (omega arith)) ∙ unsigned_abs-mul K d)

pub loop-u-preserved : goal.loop-u-preserved
loop-u-preserved c =
    let K = c.args.self.now.factor in
    let T = c.args.self.now.form.now in
    let j = c.loop-u.u-index in
    let d = (get_or T j unread).coefficient in
    let g : SFits w64 K = search rules in
    let f : SFits w64 d = search rules in
    let s = number_of c.args.self.now.set.now in
    let S = bit_or s (number_of (get_or T j unread).set) in
    let F = form_in (take c.loop-u.n c.loop-u.work) in
    let F' = form_in (take c.put_term-n.result c.put_term-n.new.work) in
    let t = next_share K T j (norm F) c.loop-u-test.true c.loop-u.invariant.1 in
    let e : F' ≡ insert S (K *ℤ d) F
    = c.put_term-n.ensures.form ∙ ap₂ (λ (x : ℕ) (y : ℤ). insert x y F) c.join.ensures (made_is K d g f (omega arith)) in (
      ap (λ (x : Form). add_all x (scaled s K (form_in (drop (j + 1) T)))) e
          ∙ sym (at_drop_more (λ (ts : List Term). add_all F (scaled s K (form_in ts))) T j unread c.loop-u-test.true)
          ∙ c.loop-u.invariant.0,
      omega (arith, ap norm e, insert_norm S (K *ℤ d) F, unsigned_abs-mul K d),
      omega (arith, c.put_term-n.ensures.bound),
      drop_later (c.loop-u.n + 1) (c.args.used + (j + 1)) c.put_term-n.new.work c.loop-u.work (omega arith) c.put_term-n.ensures.rest
          ∙ drop_later (c.args.used + j) (c.args.used + (j + 1)) c.loop-u.work c.args.work.now (omega arith) c.loop-u.invariant.3,
    )
