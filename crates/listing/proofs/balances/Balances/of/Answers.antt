use Rattle.listing.proofs.Numbered.{nodes_listed}
use Rattle.listing.proofs.balances.Balances.of.Goals as goal

pub returns-clause-numbers : goal.returns-clause-numbers
returns-clause-numbers c = nodes_listed _ _ _ c.on.ensures
