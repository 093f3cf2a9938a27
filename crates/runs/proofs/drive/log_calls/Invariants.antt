use Rattle.std.proofs.Common.{◌≡◌, ◌++◌, take, drop}
use Rattle.line.specs.Views.{view}
use Rattle.runs.specs.Runs.{afterwards, reports}
use Rattle.runs.proofs.drive.log_calls.Given as goal

abbrev pub invariant-loop-i : goal.invariant-loop-i
invariant-loop-i g l =
    let v = view g.B.Bank.belts in
    (l.log ≡ reports l.sheets (v l.initial.line) (take l.i l.calls) ++ drop l.i l.initial.log)
    × (v l.line ≡ afterwards l.sheets (v l.initial.line) (take l.i l.calls))
