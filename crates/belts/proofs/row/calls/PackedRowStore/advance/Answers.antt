use Rattle.std.proofs.Common.{◌<◌, arith}
use Rattle.belts.proofs.Nibbles.{row_counted, below_take}
use Rattle.belts.proofs.row.calls.PackedRowStore.advance.Goals as goal

pub invariant_of-self : goal.invariant_of-self
invariant_of-self c =
    let r = c.args.self.now in
    let n = row_counted r in
    let some : 0 < r.count = omega arith in
    record { some = omega arith; few = omega arith; narrow = omega arith; held = omega arith; clean = below_take r.count r.bits some r.clean }
