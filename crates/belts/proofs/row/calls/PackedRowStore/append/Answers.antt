use Rattle.std.proofs.Common.{◌≡◌, suc, ◌+◌, ap, arith}
use Rattle.belts.specs.Belts.{holding}
use Rattle.belts.specs.Layouts.{row_of}
use Rattle.belts.proofs.Nibbles.{row_open, joined_put, below_put, unpacked_put}
use Rattle.belts.proofs.row.calls.PackedRowStore.append.Goals as goal

pub invariant_of-self : goal.invariant_of-self
invariant_of-self c =
    let r = c.args.self.now in
    let k = row_open r c.requires.0 in
    let b = below_put r.count r.bits c.args.word r.clean c.requires.1 in
    record {
      some = omega arith;
      few = omega arith;
      narrow = omega arith;
      held = omega arith;
      clean = rw (c.from.ensures, joined_put r.count r.bits c.args.word (omega arith) r.clean c.requires.1) b;
    }

pub returns : goal.returns
returns c =
    let r = c.args.self.now in
    let k = row_open r c.requires.0 in
    let j = joined_put r.count r.bits c.args.word (omega arith) r.clean c.requires.1 in
    let u = unpacked_put r.count r.bits c.args.word r.clean c.requires.1 in
    let e : r.count + 1 ≡ suc r.count = omega arith in
    ap (holding (row_of r)) (rw (c.from.ensures, j, e, u))
