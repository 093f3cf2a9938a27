use Rattle.std.proofs.Common.{◌≡◌, ◌∙◌, ap, set, subst, get_or, take, ⊎_elim, arith}
use Rattle.std.proofs.lemmas.Bool.{cases_lt}
use Rattle.terms.specs.Records.{entry_of, term_of}
use Rattle.terms.proofs.Over.{over}
use Rattle.terms.proofs.Recorded.{unread, terms_back}
use Rattle.terms.proofs.Blanked.{blanked, none, more, all}
use Rattle.terms.proofs.blanking.blank_behind.Goals as goal

pub loop-t-preserved : goal.loop-t-preserved
loop-t-preserved c =
    let T = take c.args.len c.args.work.now in
    λ k a. ⊎_elim (λ q. c.loop-t.invariant k q) (λ q. subst (λ j. term_of (entry_of (get_or T j unread)) ≡ get_or T j unread) (omega arith) c.read.ensures) (cases_lt k c.loop-t.t-index)

pub loop-i-init : goal.loop-i-init
loop-i-init c = (none c.args.work.now c.args.len c.args.reach c.requires.0 c.requires.1, omega arith, c.requires.0)

pub loop-i-preserved : goal.loop-i-preserved
loop-i-preserved c =
    let W = c.args.work.now in
    let i = c.loop-i.i in (
      ap (λ ts. set ts i c.unused.result) c.loop-i.invariant.0 ∙ ap (set (over W (blanked W c.args.len c.args.reach) i) i) c.unused.ensures
          ∙ more W c.args.len c.args.reach c.requires.0 c.requires.1 i c.loop-i.invariant.1 (omega arith),
      omega arith,
      omega arith,
    )

pub returns : goal.returns
returns c =
    let W = c.args.work.now in
    record {
      whole = c.loop-i.invariant.0 ∙ ap (over W (blanked W c.args.len c.args.reach)) (omega (arith, c.loop-i.invariant)) ∙ all W c.args.len c.args.reach c.requires.0 c.requires.1;
      terms = terms_back (take c.args.len W) (λ k a. c.loop-t.invariant k (omega (arith, a)));
    }
