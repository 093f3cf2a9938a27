use Rattle.std.proofs.Common.{take, ap, ◌∙◌}
use Rattle.line.specs.Views.{running}
use Rattle.line.proofs.Whole.{tick_is}
use Rattle.line.proofs.Bytes.{sums_of_bytes}
use Rattle.line.proofs.board.Board.perform.Goals as goal

pub returns-clause-exact : goal.returns-clause-exact
returns-clause-exact g c =
    let s = running (g.B.Bank.belts c.args.bank.now) c.args.self.now in
    let wires = ap (λ k. take k c.settle-settled.result) c.len-lines.ensures ∙ c.settle-settled.ensures in
    tick_is s c.args.sensors.now c.args.events.now _ _ wires c.report-pair.ensures.bytes _ _ c.report-pair.ensures.pair c.move_all.ensures

pub returns-clause-pair : goal.returns-clause-pair
returns-clause-pair g c = c.report-pair.ensures.pair ∙ sums_of_bytes _ _ _ _ _ c.report-pair.ensures.bytes
