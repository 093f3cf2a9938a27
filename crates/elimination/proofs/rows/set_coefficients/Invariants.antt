use Rattle.std.proofs.Common.{◌≡◌, ◌+◌, ◌++◌, map, take, drop}
use Rattle.kinds.specs.Elimination.{any_past}
use Rattle.elimination.proofs.rows.set_coefficients.Given as goal

abbrev pub invariant-loop-i : goal.invariant-loop-i
invariant-loop-i g l =
    let m = g.T.Number in
    (map m.value (take (l.n + l.i) l.row) ≡ map m.value (take l.n l.fn.row) ++ map m.kind.counts (take l.i l.coefficients))
    × (any_past m.kind (map m.kind.counts (drop l.i l.coefficients)) ≡ any_past m.kind (map m.kind.counts l.coefficients))
