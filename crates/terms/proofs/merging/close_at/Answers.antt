use Rattle.std.proofs.Common.{◌∙◌}
use Rattle.terms.proofs.Over.{closed_is}
use Rattle.terms.proofs.merging.close_at.Goals as goal

pub returns : goal.returns
returns c = c.copy_within.ensures.after ∙ closed_is c.args.work.now c.args.used c.args.i c.requires.0 c.requires.1
