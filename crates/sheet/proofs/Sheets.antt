-- What any sheet gives, and the belts of its lines.
use Rattle.std.proofs.Common.{◌≡◌, List, [], ◌∷◌, length, refl, ap, arith}
use Rattle.std.specs.List.{filter_map}
use Rattle.std.proofs.lemmas.List.{length-take-le}
use Rattle.sheet.specs.declared.node.Node.{Node}
use Rattle.sheet.specs.declared.node.Node.TheVariants.{Free, Belt, Gate}
use Rattle.sheet.specs.declared.sheet.Sheet.{Sheet}
use Rattle.sheet.specs.Nodes.{belts_of, offer_and_take}
use Rattle.sheet.specs.Rules.{Lawful}
use Rattle.sheet.specs.Views.{nodes_in}

module _ (s : Sheet) where
  pub length_nodes : length (nodes_in s) ≡ s.len
  length_nodes = length-take-le s.len s.nodes (omega (arith, s.whole, s.few))

  -- every sheet keeps the rules
  pub lawful : Lawful (nodes_in s)
  lawful = record { lines = omega (arith, length_nodes, s.few); belts = s.belts; free = s.free; ordered = s.ordered; named = s.named; complete = s.complete }

-- the belts are what the lines tell of them, in order
pub told_belts : (ns : List Node) → filter_map offer_and_take ns ≡ belts_of ns
told_belts [] = refl
told_belts (Free s ∷ ns) = told_belts ns
told_belts (Belt o t ∷ ns) = ap (λ bs. (o, t) ∷ bs) (told_belts ns)
told_belts (Gate g ∷ ns) = told_belts ns
