use Rattle.terms.proofs.Rises.{rises}
use Rattle.terms.proofs.Values.{values}
use Rattle.terms.proofs.laws.forms_add_up.Goals as goal

pub returns : goal.returns
returns c = record { values = values; rises = rises }
