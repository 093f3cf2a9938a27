use Rattle.std.proofs.Common.{refl}
use Rattle.std.specs.Fmt.{digits}
use Rattle.forms.specs.Gates.{forms_of, limits}
use Rattle.kinds.specs.Kinds.{gcd}
use Rattle.kinds.specs.Elimination.{handled, eliminated, eliminate}
use Rattle.flows.specs.Derivation.{balances_of}
use Rattle.examples.proofs.examples_hold.Goals as goal

pub returns : goal.returns
unfolding digits forms_of limits gcd handled eliminated eliminate balances_of
returns c = (refl, (refl, (refl, (refl, (refl, (refl, (refl, (refl, (refl, (refl, tt))))))))))
