use Rattle.std.proofs.Common.{◌<◌, [], length, ◌∙◌, arith, length-set}
use Rattle.line.specs.Lines.{row_from}
use Rattle.line.proofs.Numbering.{numbered_on, line_value_is}
use Rattle.line.proofs.Settling.{settled_on}
use Rattle.line.proofs.wires.Inputs.settle.Goals as goal

pub loop-i-preserved : goal.loop-i-preserved
loop-i-preserved g c =
    let ns = c.nodes-node-items.result.now in
    let i = c.loop-i.i in
    let ws = c.loop-i.wires in
    let bank = g.B.Bank.belts c.args.self.now.bank.now in
    let flops = c.args.self.now.flops.now in
    let sensors = c.args.self.now.sensors.now in
    let h : i < length ns = omega arith in
    let known = c.loop-i.invariant.1 in (
      length-set ws i _ ∙ c.loop-i.invariant.0,
      numbered_on ns i _ h known _ c.add.ensures,
      settled_on (row_from bank flops sensors [] ns) ns i ws _ h (omega arith) c.loop-i.invariant.2 (c.line_value.ensures ∙ line_value_is bank flops sensors ns i _ _ (g.met.B.Bank.sized c.args.self.now.bank.now).1 h known),
    )
