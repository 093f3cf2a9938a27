use Rattle.std.proofs.Common.{refl}
use Rattle.runs.specs.Runs.{filled}
use Rattle.runs.proofs.perform.report.Goals as goal

pub returns : goal.returns
unfolding filled
returns c = refl
