-- What a caller's log of reports tells of each belt. Assumes nothing.
use Rattle.std.specs.Prelude.{ℕ, ◌+◌, ◌*◌, List, [], ◌∷◌, ◌++◌, sum_by, slice_index}
use Rattle.std.specs.List.{fold}
use Rattle.runs.specs.declared.calls.Answer.{Answer}
use Rattle.runs.specs.declared.calls.Answer.TheVariants.{Done, Ticked, Counted, Refused}
use Rattle.runs.specs.declared.calls.Report.{Report}

-- the event bytes, one list for each accepted tick, with one report more: an accepted mounting or clearing ends them
abbrev pub heard : List (List ℕ) → Answer → List ℕ → List (List ℕ)
heard told Done bytes = []
heard told (Ticked enter leave) bytes = told ++ bytes ∷ []
heard told (Counted n) bytes = told
heard told (Refused f) bytes = told

abbrev pub since_from : List (List ℕ) → List Report → List (List ℕ)
since_from = fold (λ told r. heard told r.answer r.bytes)

-- the event bytes of the accepted ticks since the last accepted mounting or clearing, by the log alone
abbrev pub since : List Report → List (List ℕ)
since log = since_from [] log

-- a belt's reported enterings and leavings: the sums of the bytes, entered and left, that were written for it
abbrev pub enterings : ℕ → List (List ℕ) → ℕ
enterings b told = sum_by (λ bytes. slice_index bytes (2 * b)) told

abbrev pub leavings : ℕ → List (List ℕ) → ℕ
leavings b told = sum_by (λ bytes. slice_index bytes (2 * b + 1)) told
