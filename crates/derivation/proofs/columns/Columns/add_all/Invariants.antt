use Rattle.derivation.specs.Tables.{sets_in, found_in}
use Rattle.derivation.proofs.Found.{Going}
use Rattle.derivation.proofs.columns.Columns.add_all.Given as goal

abbrev pub invariant-loop-t : goal.invariant-loop-t
invariant-loop-t l = Going l.flow (sets_in l.initial.self) (found_in l.initial.self) l.self l.t-index
