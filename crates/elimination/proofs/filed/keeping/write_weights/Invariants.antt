use Rattle.std.proofs.Common.{◌≡◌, ◌+◌, ◌++◌, map, take, drop}
use Rattle.elimination.proofs.filed.keeping.write_weights.Given as goal

abbrev pub invariant-loop-i : goal.invariant-loop-i
invariant-loop-i g l =
    let m = g.T.Number in
    l.weights ≡ take l.at l.fn.weights ++ (map m.kind.writes (map m.value (take l.i l.row)) ++ drop (l.at + l.i) l.fn.weights)
