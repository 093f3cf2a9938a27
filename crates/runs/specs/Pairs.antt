-- Two lines driven together, each by its own calls. Assumes nothing.
use Rattle.std.specs.Prelude.{◌≡◌, Bool, true, false, cond, not, List, [], ◌∷◌}
use Rattle.sheet.specs.declared.sheet.Sheet.{Sheet}
use Rattle.line.specs.Lines.{State}
use Rattle.runs.specs.declared.calls.Call.{Call}
use Rattle.runs.specs.declared.calls.Order.{Order}
use Rattle.runs.specs.declared.calls.Order.TheVariants.{First, Second}
use Rattle.runs.specs.declared.calls.Report.{Report}
use Rattle.runs.specs.Runs.{performed, afterwards, reports}
use Rattle.runs.specs.Laws.{Kept}

-- whether an order is for the second line
abbrev pub is_second : Order → Bool
is_second (First c) = false
is_second (Second c) = true

abbrev pub call_of : Order → Call
call_of (First c) = c
call_of (Second c) = c

-- whether an order is for one of the lines: the second, where `which` is true, or else the first
abbrev pub is_for : Bool → Order → Bool
is_for true o = is_second o
is_for false o = not (is_second o)

-- the calls that orders have for one of the lines, in order
abbrev pub calls_for : Bool → List Order → List Call
calls_for which [] = []
calls_for which (o ∷ os) = cond (is_for which o) (call_of o ∷ calls_for which os) (calls_for which os)

-- the reports of those calls, in a log that has one report for each order
abbrev pub reports_for : Bool → List Order → List Report → List Report
reports_for which [] log = []
reports_for which (o ∷ os) [] = []
reports_for which (o ∷ os) (r ∷ log) = cond (is_for which o) (r ∷ reports_for which os log) (reports_for which os log)

-- one of the lines after an order, which alters it if it is for it
abbrev pub obeyed : Bool → List Sheet → State → Order → State
obeyed which sheets s o = cond (is_for which o) (performed sheets s (call_of o)).after s

-- the report of an order, on the line that it is for
abbrev pub report_of : List Sheet → State → State → Order → Report
report_of sheets one two o = cond (is_second o) (performed sheets two (call_of o)).report (performed sheets one (call_of o)).report

-- the reports of orders, carried out one after another
abbrev pub woven : List Sheet → State → State → List Order → List Report
woven sheets one two [] = []
woven sheets one two (o ∷ os) = report_of sheets one two o ∷ woven sheets (obeyed false sheets one o) (obeyed true sheets two o) os

-- one of the lines ends and reports as by its own calls alone, and the law holds of it and its own reports
pub record Alone (sheets : List Sheet) (start : State) (which : Bool) (orders : List Order) (log : List Report) (end : State) : Type 0 where
  pub ends : end ≡ afterwards sheets start (calls_for which orders)
  pub reported : reports_for which orders log ≡ reports sheets start (calls_for which orders)
  pub law : Kept end (reports_for which orders log)
