-- With which numbers the derivation of a sheet's balances may refuse.
use Rattle.std.proofs.Common.{ℕ, List, map, length, Ok, Err, Result}
use Rattle.std.specs.Prelude.{Contains, nat_lt}
use Rattle.sheet.specs.declared.node.Node.{Node}
use Rattle.sheet.specs.declared.fault.Refusal.TheVariants.{ManyColumns}
use Rattle.sheet.proofs.Numbers.{Within, then_within, if_within}
use Rattle.terms.specs.Forms.{Form}
use Rattle.forms.specs.Gates.{limits}
use Rattle.forms.proofs.Numbered.{limits_within}
use Rattle.kinds.specs.Kinds.{Kind}
use Rattle.kinds.specs.Elimination.{eliminate}
use Rattle.flows.specs.Columns.{columns_of, table}
use Rattle.flows.specs.Flows.{flows_of}
use Rattle.flows.specs.Derivation.{as_written, balances_of, derived}

module _ (numbers : List ℕ) (long : Contains numbers 15) (together_long : Contains numbers 16) (large_one : Contains numbers 17)
    (many : Contains numbers 18) (past : Contains numbers 19) (K : Kind) where
  as_written_within : (r : Result (List (List K.Num)) ℕ) → Within numbers (as_written K r)
  as_written_within (Ok ws) = tt
  as_written_within (Err b) = past

  balances_within : (flows : List Form) → Within numbers (balances_of K flows)
  unfolding balances_of
  balances_within flows =
      if_within numbers (nat_lt 256 (length (columns_of flows))) ManyColumns 0 _ many
      (as_written_within (eliminate K (length (columns_of flows)) (map (map K.counts) (table flows))))

  pub derived_within : (ns : List Node) → Within numbers (derived K ns)
  derived_within ns = then_within numbers (limits ns) (λ _. balances_of K (flows_of ns)) (limits_within numbers long together_long large_one ns) (λ _. balances_within (flows_of ns))
