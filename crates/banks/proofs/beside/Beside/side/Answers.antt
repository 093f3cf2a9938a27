use Rattle.std.proofs.Common.{sym, arith}
use Rattle.banks.specs.Standing.{in_first, in_second, in_neither}
use Rattle.banks.proofs.beside.Beside.side.Goals as goal

pub returns-then-i-n : goal.returns-then-i-n
returns-then-i-n g c =
    let s = c.args.self.now in
    in_first (g.X.Bank.belts s.first) (g.Y.Bank.belts s.second) c.args.i (g.met.X.Bank.sized s.first).1 (omega arith)

pub returns-else-i-n : goal.returns-else-i-n
returns-else-i-n g c =
    let s = c.args.self.now in
    in_second (g.X.Bank.belts s.first) (g.Y.Bank.belts s.second) c.args.i c.size-n.result (sym c.size-n.ensures) (omega arith) (omega arith)

pub returns-then-i-ge-MOST : goal.returns-then-i-ge-MOST
returns-then-i-ge-MOST g c =
    let s = c.args.self.now in
    in_neither (g.X.Bank.belts s.first) (g.Y.Bank.belts s.second) c.args.i (omega arith)
