use Rattle.sheet.specs.Views.{nodes_in}
use Rattle.kinds.specs.Kinds.{parities}
use Rattle.flows.proofs.Derived.{parities_count}
use Rattle.derivation.proofs.Deriving.{complete, signed, within}
use Rattle.derivation.proofs.derive.derive_parity.Goals as goal

pub returns-clause-numbers : goal.returns-clause-numbers
returns-clause-numbers c = within parities (nodes_in c.args.sheet.now) _ _ _ c.derive.ensures

pub returns-clause-complete : goal.returns-clause-complete
returns-clause-complete c = complete parities_count (nodes_in c.args.sheet.now) _ _ _ c.derive.ensures

pub returns-clause-signed : goal.returns-clause-signed
returns-clause-signed c = signed parities_count (nodes_in c.args.sheet.now) _ _ _ c.derive.ensures
