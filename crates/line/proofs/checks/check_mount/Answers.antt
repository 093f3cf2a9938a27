use Rattle.std.proofs.Common.{sym, ap, arith}
use Rattle.sheet.specs.Refusals.{number}
use Rattle.line.proofs.checks.check_mount.Goals as goal

pub returns-in-Some-clause-numbers : goal.returns-in-Some-clause-numbers
returns-in-Some-clause-numbers g c = (1, omega arith, sym (ap (λ f. number f.refusal) c.at.ensures))

pub returns-in-Some-laden_belt-clause-numbers : goal.returns-in-Some-laden_belt-clause-numbers
returns-in-Some-laden_belt-clause-numbers g c = (2, omega arith, sym (ap (λ f. number f.refusal) c.at-in-Some-laden_belt.ensures))
