use Rattle.std.proofs.Common.{arith}
use Rattle.line.specs.Views.{running}
use Rattle.line.proofs.Whole.{moved_lem}
use Rattle.line.proofs.board.Board.move_all.Goals as goal

pub returns : goal.returns
returns g c =
    let s = running (g.B.Bank.belts c.args.bank.now) c.args.self.now in
    moved_lem s c.args.wires.now _ c.args.events.now c.words-entering.result c.belts.result _ c.belts.ensures
    (omega (arith, c.belts.ensures, c.args.self.now.sheet.belts)) c.words-entering.ensures c.advance.ensures c.next_flops-self.ensures
