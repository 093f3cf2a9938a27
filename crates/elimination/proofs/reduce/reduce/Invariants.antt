use Rattle.std.proofs.Common.{◌≡◌, ◌-◌, map, length}
use Rattle.kinds.specs.Elimination.{handled}
use Rattle.elimination.specs.Memory.{kept_of}
use Rattle.elimination.proofs.reduce.reduce.Given as goal

abbrev pub invariant-loop-j : goal.invariant-loop-j
invariant-loop-j g l =
    let m = g.T.Number in
    let k = kept_of l.kept.size l.kept.leads.now (map m.value l.kept.rows.now) in
    handled m.kind l.n k (length l.fn.row - l.n - l.j) l.j (map m.value l.row)
    ≡ handled m.kind l.n k (length l.fn.row - l.n) 0 (map m.value l.fn.row)
