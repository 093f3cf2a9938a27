use Rattle.std.proofs.Common.{◌≡◌, map, take}
use Rattle.kinds.specs.Elimination.{less}
use Rattle.elimination.proofs.rows.combine_row.Given as goal

abbrev pub invariant-loop-i : goal.invariant-loop-i
invariant-loop-i g l =
    let m = g.T.Number in
    map m.sum (take l.i l.out) ≡ less m.kind (m.value l.a) (map m.value (take l.i l.row)) (m.value l.fn.c) (map m.value (take l.i l.other))
