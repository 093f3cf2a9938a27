use Rattle.std.proofs.Common.{false, arith}
use Rattle.std.proofs.lemmas.List.{take-replicate}
use Rattle.sheet.specs.Views.{nodes_in}
use Rattle.line.proofs.Rules.{flops_free}
use Rattle.line.proofs.moves.low_flops.Goals as goal

pub returns : goal.returns
returns c = take-replicate _ 128 false (omega (arith, flops_free (nodes_in c.args.sheet.now), c.args.sheet.now.free))
