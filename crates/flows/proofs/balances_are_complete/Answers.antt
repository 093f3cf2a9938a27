use Rattle.flows.proofs.Complete.{balances_complete}
use Rattle.flows.proofs.Derived.{wholes_count, parities_count}
use Rattle.flows.proofs.balances_are_complete.Goals as goal

pub returns : goal.returns
returns c = record { wholes = balances_complete wholes_count; parities = balances_complete parities_count }
