use Rattle.std.proofs.Common.{◌≡◌, true, false, ◌++◌, take, drop}
use Rattle.line.specs.Views.{view}
use Rattle.runs.specs.Runs.{afterwards}
use Rattle.runs.specs.Pairs.{calls_for, woven}
use Rattle.runs.proofs.pair.log_orders.Given as goal

abbrev pub invariant-loop-i : goal.invariant-loop-i
invariant-loop-i g l =
    let s = view g.A.Bank.belts l.initial.one in
    let t = view g.C.Bank.belts l.initial.two in
    (l.log ≡ woven l.sheets s t (take l.i l.orders) ++ drop l.i l.initial.log)
    × (view g.A.Bank.belts l.one ≡ afterwards l.sheets s (calls_for false (take l.i l.orders)))
    × (view g.C.Bank.belts l.two ≡ afterwards l.sheets t (calls_for true (take l.i l.orders)))
