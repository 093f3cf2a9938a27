use Rattle.sheet.specs.Views.{nodes_in}
use Rattle.derivation.proofs.Deriving.{one_of_32, told_is}
use Rattle.derivation.proofs.derive.solve.Goals as goal

pub by_belt-requires : goal.by_belt-requires
by_belt-requires g c = one_of_32 g.K.Number.kind (nodes_in c.args.sheet.now) _ _ c.requires _ _ c.rows.ensures _ c.eliminate.ensures

pub returns : goal.returns
returns g c = told_is g.K.Number.kind (nodes_in c.args.sheet.now) _ _ c.requires _ _ c.rows.ensures _ c.eliminate.ensures _ c.by_belt.ensures
