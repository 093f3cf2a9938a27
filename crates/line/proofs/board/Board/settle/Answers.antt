use Rattle.std.proofs.Common.{◌≤◌, [], take, ap, ◌∙◌, arith, rules}
use Rattle.sheet.specs.Views.{nodes_in}
use Rattle.sheet.specs.Wires.{settled}
use Rattle.line.specs.Lines.{row_from}
use Rattle.line.proofs.Rules.{flops_free}
use Rattle.line.proofs.board.Board.settle.Goals as goal

pub shared_ref_as_front-inputs : goal.shared_ref_as_front-inputs
shared_ref_as_front-inputs g c =
    let sheet = c.args.self.now.sheet in
    let few : c.flops-count.result ≤ 128 = omega (arith, c.flops-count.ensures, flops_free (nodes_in sheet), sheet.free) in
    search rules

pub returns : goal.returns
returns g c =
    let board = c.args.self.now in
    let ns = nodes_in board.sheet in
    c.settle.ensures ∙ ap (λ k. settled ns (row_from (g.B.Bank.belts c.args.bank.now) (take k board.flops) c.args.sensors.now [] ns)) c.flops-count.ensures
