use Rattle.sheet.specs.Views.{nodes_in}
use Rattle.forms.specs.Slots.{forms_in}
use Rattle.derivation.proofs.Found.{Gathered}
use Rattle.derivation.proofs.flow.Worked.collect.Given as goal

abbrev pub invariant-loop-b : goal.invariant-loop-b
invariant-loop-b l = Gathered (nodes_in l.self.sheet.now) (forms_in l.self.forms.now) l.columns l.b
