use Rattle.std.proofs.Common.{◌≡◌, ◌+◌, map}
use Rattle.kinds.specs.Elimination.{eliminated}
use Rattle.elimination.specs.States.{state_in, AsWritten}
use Rattle.elimination.specs.Answers.{balances_of}
use Rattle.elimination.proofs.Turns.{left}
use Rattle.elimination.proofs.solve.eliminate.Given as goal

abbrev pub invariant-loop-b : goal.invariant-loop-b
invariant-loop-b g l =
    let v = g.T.Number in
    let n = l.table.n in
    let m = l.table.m in
    (l.filed.used + l.filed.found ≡ l.b)
    × AsWritten v.kind n l.filed
    × (eliminated v.kind n m (state_in v.kind n (n + m) l.filed (map v.value l.rows)) l.b (left v.kind n m l.table.coefficients.now l.b)
    ≡ balances_of v.kind n m l.table.coefficients.now)
