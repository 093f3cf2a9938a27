use Rattle.std.proofs.Common.{set, ap, ◌∙◌}
use Rattle.terms.proofs.Over.{opened_is}
use Rattle.terms.proofs.merging.open_at.Goals as goal

pub returns : goal.returns
returns c = ap (λ ts. set ts c.args.i c.args.t) c.copy_within.ensures.after ∙ opened_is c.args.work.now c.args.used c.args.i c.args.t c.requires.0 c.requires.1
