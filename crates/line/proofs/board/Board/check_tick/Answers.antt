use Rattle.std.proofs.Common.{sym, ap, arith}
use Rattle.sheet.specs.Refusals.{number}
use Rattle.line.proofs.board.Board.check_tick.Goals as goal

pub returns-then-room-belts-clause-numbers : goal.returns-then-room-belts-clause-numbers
returns-then-room-belts-clause-numbers c = (2, omega arith, sym (ap (λ f. number f.refusal) c.into-then-room-belts.ensures))
