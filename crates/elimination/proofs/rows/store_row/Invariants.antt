use Rattle.std.proofs.Common.{◌≡◌, map, take, drop}
use Rattle.kinds.specs.Elimination.{any_past}
use Rattle.elimination.proofs.rows.store_row.Given as goal

abbrev pub invariant-loop-i : goal.invariant-loop-i
invariant-loop-i g l =
    let m = g.T.Number in
    (map m.value (take l.i l.row) ≡ map m.sum (take l.i l.from))
    × (any_past m.kind (map m.sum (drop l.i l.from)) ≡ any_past m.kind (map m.sum l.from))
