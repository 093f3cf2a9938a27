-- What is known of the balances that were derived of a text.
use Rattle.std.specs.Prelude.{◌≡◌, ℕ, ◌≤◌, List, length, Ok}
use Rattle.sheet.specs.declared.node.Node.{Node}
use Rattle.printing.specs.Printing.{list_text}
use Rattle.printing.specs.Reading.{reading, listed}
use Rattle.listing.specs.Listing.{list_of, list_of_nodes}
use Rattle.listing.specs.Truth.{Tells, Truth}
use Rattle.listing.specs.declared.balances.Balances.{Balances}

-- the balances of some nodes: their list is that of the nodes, is not too long, and tells this of them where it is read back
pub record BalancesOn (ns : List Node) (b : Balances) : Type 0 where
  pub list : list_of_nodes ns ≡ Ok (list_text b.belts b.count b.weights)
  pub short : length (list_text b.belts b.count b.weights) ≤ 9504
  pub tells : (bytes : List ℕ) → reading bytes ≡ listed b.belts b.count b.weights → Tells ns bytes

-- the same of a text
pub record BalancesOf (text : List ℕ) (b : Balances) : Type 0 where
  pub list : list_of text ≡ Ok (list_text b.belts b.count b.weights)
  pub short : length (list_text b.belts b.count b.weights) ≤ 9504
  pub truth : (bytes : List ℕ) → reading bytes ≡ listed b.belts b.count b.weights → Truth text bytes
