-- Which balances are watched. Assumes nothing.
use Rattle.std.specs.Prelude.{◌≡◌, ℕ, List, map, ℤ, Option, None, Ok}
use Rattle.sheet.specs.declared.node.Node.{Node}
use Rattle.flows.specs.Derivation.{derived}
use Rattle.simulate.specs.Kinds.{numbers_of}
use Rattle.simulate.specs.declared.balance.Balance.{Balance}
use Rattle.simulate.specs.declared.balance.Kind.{Kind}

-- a balance that is watched: its kind, its weights, and the first tick after which it was off
pub record BalanceValue : Type 0 where
  pub kind : Kind
  pub weights : List ℤ
  pub off : Option ℕ

-- what a balance that is watched tells
abbrev pub balance_in : Balance → BalanceValue
balance_in b = record { kind = b.kind; weights = b.weights.items; off = b.off }

-- a balance of these weights that was never off
abbrev pub new_balance : Kind → List ℤ → BalanceValue
new_balance kind weights = record { kind = kind; weights = weights; off = None }

-- the balances that derivation gives for the sheet's lines, none of which was off yet
pub record Derived (kind : Kind) (ns : List Node) (balances : List BalanceValue) : Type 0 where
  pub weights : List (List ℤ)
  pub found : derived (numbers_of kind) ns ≡ Ok weights
  pub all : balances ≡ map (new_balance kind) weights
