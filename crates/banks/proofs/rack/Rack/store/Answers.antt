use Rattle.std.proofs.Common.{arith}
use Rattle.banks.proofs.RackRows.{row_set}
use Rattle.banks.proofs.rack.Rack.store.Goals as goal

pub returns-then-i-self : goal.returns-then-i-self
returns-then-i-self c =
    let k = c.args.self.now in
    row_set k.rows k.size c.args.i c.args.row (omega arith)
