-- What holds of a line after any list of calls. Assumes nothing.
use Rattle.std.specs.Prelude.{◌≡◌, ℕ, ◌+◌, ◌<◌, List, length, ℤ, pos, Some, Ok}
use Rattle.std.specs.List.{AllByRecursion}
use Rattle.banks.specs.Banks.{numbered}
use Rattle.kinds.specs.Kinds.{Kind, wholes, parities}
use Rattle.flows.specs.Derivation.{derived}
use Rattle.flows.specs.Completeness.{Zero, Even, comes_to, weighting}
use Rattle.line.specs.Parts.{belt_count}
use Rattle.line.specs.Lines.{State, read}
use Rattle.runs.specs.declared.calls.Report.{Report}
use Rattle.runs.specs.Told.{since, enterings, leavings}

-- how many words belt b of the bank holds
abbrev pub held : State → ℕ → ℕ
held s b = length (numbered s.bank b).words

-- the count read of a belt is the length of its list in the bank, and equals its reported enterings less its reported leavings
pub record CountTells (s : State) (told : List (List ℕ)) (b : ℕ) : Type 0 where
  pub counted : read s b ≡ Some (held s b)
  pub reported : held s b + leavings b told ≡ enterings b told

-- the same, of each belt of the mounted sheet
abbrev pub CountsTell : State → List (List ℕ) → Type 0
CountsTell s told = (b : ℕ) → b < belt_count s.sheet → CountTells s told b

-- each balance that derivation gives for the mounted sheet comes, over the counts, to what counts as zero
abbrev pub BalancesHold : Kind → (ℤ → Type 0) → State → Type 0
BalancesHold K Z s =
    (balances : List (List ℤ)) → derived K s.sheet ≡ Ok balances
    → AllByRecursion (λ u. Z (comes_to (belt_count s.sheet) (weighting u) (λ b. pos (held s b)))) balances

-- the law over runs, of a line and the log of the calls that were made on it
pub record Kept (s : State) (log : List Report) : Type 0 where
  pub counts : CountsTell s (since log)
  pub balances : BalancesHold wholes Zero s
  pub parities : BalancesHold parities Even s
