use Rattle.std.proofs.Common.{◌≡◌, map, take, replicate}
use Rattle.elimination.proofs.rows.set_weights.Given as goal

abbrev pub invariant-loop-x : goal.invariant-loop-x
invariant-loop-x g l = let m = g.T.Number in map m.value (take l.x-index l.row) ≡ replicate l.x-index m.kind.zero
