-- Runs of a line by a list of calls, and the reports of them. Assumes nothing.
use Rattle.std.specs.Prelude.{ℕ, ◌-◌, min, List, [], ◌∷◌, ◌++◌, map, length, replicate, Ok, Err, Result, slice_index_or}
use Rattle.std.specs.List.{fold}
use Rattle.sheet.specs.declared.node.Node.{Node}
use Rattle.sheet.specs.declared.fault.Fault.{Fault}
use Rattle.sheet.specs.declared.sheet.Sheet.{Sheet}
use Rattle.sheet.specs.Views.{nodes_in}
use Rattle.line.specs.Lines.{State, Step, mount, tick, clear, read}
use Rattle.runs.specs.declared.calls.Call.{Call}
use Rattle.runs.specs.declared.calls.Call.TheVariants.{Mount, Tick, Clear, Count}
use Rattle.runs.specs.declared.calls.Answer.{Answer}
use Rattle.runs.specs.declared.calls.Answer.TheVariants.{Done, Ticked, Counted, Refused}
use Rattle.runs.specs.declared.calls.Report.{Report}

-- the lines of sheet k of those handed over; past the end, of the unfilled sheet
abbrev pub sheet_at : List Sheet → ℕ → List Node
sheet_at sheets k = slice_index_or (map nodes_in sheets) k []

-- an event memory of so many zero bytes, at most 64
abbrev pub blank : ℕ → List ℕ
blank n = replicate (min n 64) 0

-- 64 bytes: those of an event memory, and zeros after them
unfoldable pub filled : List ℕ → List ℕ
filled memory = memory ++ replicate (64 - length memory) 0

-- what a call comes to: its report, and the line after it
pub record Turn : Type 0 where
  pub report : Report
  pub after : State

-- the answer of a call that may be refused
abbrev pub answer_of : {R : Type 0} → (R → Answer) → Result R Fault → Answer
answer_of reply (Ok x) = reply x
answer_of reply (Err f) = Refused f

-- what a call comes to, by what the line's own call does
abbrev pub turn : {R : Type 0} → (R → Answer) → Step R → Turn
turn reply s = record { report = record { answer = answer_of reply s.answer; bytes = filled s.memory }; after = s.after }

-- one call: mounting sheet k, ticking with sensor bytes and an event memory of zero bytes, clearing, or reading belt b's count
abbrev pub performed : List Sheet → State → Call → Turn
performed sheets s (Mount k) = turn (λ u. Done) (mount s (sheet_at sheets k))
performed sheets s (Tick sensors memory) = turn (λ p. Ticked p.0 p.1) (tick s sensors.now (blank memory))
performed sheets s Clear = turn (λ u. Done) (clear s)
performed sheets s (Count b) = record { report = record { answer = Counted (read s b); bytes = filled [] }; after = s }

-- the line after a list of calls, made one after another
abbrev pub afterwards : List Sheet → State → List Call → State
afterwards sheets = fold (λ s c. (performed sheets s c).after)

-- the reports of the calls, one for each
abbrev pub reports : List Sheet → State → List Call → List Report
reports sheets s [] = []
reports sheets s (c ∷ cs) = (performed sheets s c).report ∷ reports sheets (performed sheets s c).after cs
