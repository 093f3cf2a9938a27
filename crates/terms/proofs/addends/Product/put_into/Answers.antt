use Rattle.std.proofs.Common.{◌≡◌, ℕ, ◌+◌, ◌*◌, ◌^◌, ◌<◌, List, length, get_or, take, drop, ℤ, ◌*ℤ◌, nat_abs, sym, ap, ◌∙◌, add-mul, arith, w64, SFits, rules}
use Rattle.std.proofs.lemmas.List.{at_drop_more}
use Rattle.terms.specs.declared.term.Term.{Term}
use Rattle.terms.specs.Sets.{number_of}
use Rattle.terms.specs.Forms.{Form, norm, add_all, scaled, add_product}
use Rattle.terms.specs.Records.{form_in}
use Rattle.terms.proofs.Norms.{add_all_norm, scaled_norm, share_out}
use Rattle.terms.proofs.Recorded.{unread, norm_step, next_share, drop_later}
use Rattle.std.proofs.lemmas.Int.{unsigned_abs-mul}
use Rattle.terms.proofs.Wide.{made_fits, made_is}
use Rattle.terms.proofs.addends.Product.put_into.Goals as goal

-- what the next term's multiple of the other form takes of the room that the rest leaves
turn : (k : ℤ) (ts : List Term) (j m b : ℕ) → j < length ts → m + nat_abs k * norm (form_in (drop j ts)) * b < 2 ^ 63
    → m + nat_abs k * nat_abs (get_or ts j unread).coefficient * b + nat_abs k * norm (form_in (drop (j + 1) ts)) * b < 2 ^ 63
turn k ts j m b l h =
    omega (
      arith,
      ap (λ (x : ℕ). nat_abs k * x * b) (norm_step ts j l)
          ∙ share_out (nat_abs k) (nat_abs (get_or ts j unread).coefficient) (norm (form_in (drop (j + 1) ts))) b,
    )

pub overflow_mul-row : goal.overflow_mul-row
overflow_mul-row c =
    let K = c.args.self.now.factor in
    let d = (get_or c.args.self.now.one.now c.loop-t.t-index unread).coefficient in
    let g : SFits w64 K = search rules in
    let f : SFits w64 d = search rules in
    made_fits K d g f (omega (arith, next_share K c.args.self.now.one.now c.loop-t.t-index 0 c.loop-t-test.true (omega (arith, c.loop-t.invariant.2))))

pub put_into-n-requires-clause-fits : goal.put_into-n-requires-clause-fits
put_into-n-requires-clause-fits c =
    let K = c.args.self.now.factor in
    let T = c.args.self.now.one.now in
    let j = c.loop-t.t-index in
    let d = (get_or T j unread).coefficient in
    let g : SFits w64 K = search rules in
    let f : SFits w64 d = search rules in
    let B = norm (form_in c.args.self.now.other.now) in
    let F = form_in (take c.loop-t.n c.loop-t.work) in
    let t = turn K T j (norm F) B c.loop-t-test.true c.loop-t.invariant.1 in
    let g = made_is K d g f (omega (arith, next_share K T j 0 c.loop-t-test.true (omega (arith, c.loop-t.invariant.2)))) in
    omega (arith, ap (λ (z : ℤ). nat_abs z * B) g ∙ ap (λ (x : ℕ). x * B) (unsigned_abs-mul K d))

pub loop-t-preserved : goal.loop-t-preserved
loop-t-preserved c =
    let K = c.args.self.now.factor in
    let T = c.args.self.now.one.now in
    let j = c.loop-t.t-index in
    let L = length c.args.self.now.other.now in
    let d = (get_or T j unread).coefficient in
    let g : SFits w64 K = search rules in
    let f : SFits w64 d = search rules in
    let Q = form_in c.args.self.now.other.now in
    let S = number_of (get_or T j unread).set in
    let F = form_in (take c.loop-t.n c.loop-t.work) in
    let F' = form_in (take c.put_into-n.result c.put_into-n.new.work) in
    let t = turn K T j (norm F) (norm Q) c.loop-t-test.true c.loop-t.invariant.1 in
    let u = next_share K T j 0 c.loop-t-test.true (omega (arith, c.loop-t.invariant.2)) in
    let e : F' ≡ add_all F (scaled S (K *ℤ d) Q)
    = c.put_into-n.ensures.form ∙ ap (λ (y : ℤ). add_all F (scaled S y Q)) (made_is K d g f (omega arith)) in
    let more : (j + 1) * L ≡ j * L + L = omega (arith, add-mul j 1 L) in (
      ap (λ (x : Form). add_product K x (form_in (drop (j + 1) T)) Q) e
          ∙ sym (at_drop_more (λ (ts : List Term). add_product K F (form_in ts) Q) T j unread c.loop-t-test.true)
          ∙ c.loop-t.invariant.0,
      omega (arith, ap norm e, add_all_norm F (scaled S (K *ℤ d) Q), scaled_norm S (K *ℤ d) Q ∙ ap (λ (x : ℕ). x * norm Q) (unsigned_abs-mul K d)),
      omega arith,
      omega (arith, c.put_into-n.ensures.bound),
      drop_later (c.loop-t.n + L) (c.args.used + (j + 1) * L) c.put_into-n.new.work c.loop-t.work (omega arith) c.put_into-n.ensures.rest
          ∙ drop_later (c.args.used + j * L) (c.args.used + (j + 1) * L) c.loop-t.work c.args.work.now (omega arith) c.loop-t.invariant.4,
    )
