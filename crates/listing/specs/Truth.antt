-- What an accepted list tells of the text that it was made from, in words of wire rows. Assumes nothing.
use Rattle.std.specs.Prelude.{◌≡◌, ℕ, List, map, ℤ, Some, count_by}
use Rattle.std.specs.List.{range_with_len}
use Rattle.sheet.specs.declared.node.Node.{Node}
use Rattle.sheet.specs.Nodes.{is_belt}
use Rattle.sheet.specs.Writing.{SheetOf}
use Rattle.flows.specs.Completeness.{Zero, Complete, gain}
use Rattle.printing.specs.Reading.{reading}

-- a list, read back, names the belts of a sheet in order and gives balances of them, none of which is false and none missing
pub record Tells (ns : List Node) (list : List ℕ) : Type 0 where
  pub balances : List (List ℤ)
  pub reads : reading list ≡ record { names = map Some (range_with_len 0 (count_by is_belt ns)); rows = map (map Some) balances }
  pub complete : Complete Zero (count_by is_belt ns) (gain ns) balances

-- the text is a sheet of some nodes and of no others, and the list tells this of them
pub record Truth (text list : List ℕ) : Type 0 where
  pub nodes : List Node
  pub sheet : SheetOf text nodes
  pub only : (ms : List Node) → SheetOf text ms → ms ≡ nodes
  pub tells : Tells nodes list
