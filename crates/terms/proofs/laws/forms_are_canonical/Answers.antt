use Rattle.terms.proofs.Canon.{canonical, same_means}
use Rattle.terms.proofs.laws.forms_are_canonical.Goals as goal

pub returns : goal.returns
returns c = record { same = same_means; canonical = canonical }
