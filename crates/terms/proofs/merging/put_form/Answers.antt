use Rattle.std.proofs.Common.{List, get_or, set, ap, ◌∙◌, arith}
use Rattle.terms.specs.declared.term.Term.{Term}
use Rattle.terms.proofs.Over.{over_more}
use Rattle.terms.proofs.Recorded.{unread, terms_more}
use Rattle.terms.proofs.merging.put_form.Goals as goal

pub loop-i-preserved : goal.loop-i-preserved
loop-i-preserved c =
    let T = c.args.form.now in
    let i = c.loop-i.i in (
      c.write.ensures.whole ∙ ap (λ (w : List Term). set w i (get_or T i unread)) c.loop-i.invariant.0 ∙ over_more c.args.work.now T i unread (omega arith) (omega arith),
      terms_more T i (omega arith) c.loop-i.invariant.1 c.write.ensures.term,
    )
