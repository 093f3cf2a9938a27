use Rattle.std.proofs.Common.{◌≤◌, pos, replicate, count_by, rules}
use Rattle.sheet.specs.Nodes.{is_belt}
use Rattle.sheet.specs.Views.{nodes_in}
use Rattle.listing.proofs.Listed.{found, fit_of, list, short, tells}
use Rattle.listing.proofs.balances.Balances.new.Goals as goal

pub invariant_of-result : goal.invariant_of-result
invariant_of-result c =
    let f = found (nodes_in c.args.sheet.now) (replicate 1024 (pos 0)) c.args.weights c.args.count c.requires in
    let few : count_by is_belt (nodes_in c.args.sheet.now) ≤ 32 = search rules in
    record { fit = fit_of _ _ _ f few _ c.belts.ensures }

pub returns : goal.returns
returns c =
    let f = found (nodes_in c.args.sheet.now) (replicate 1024 (pos 0)) c.args.weights c.args.count c.requires in
    let few : count_by is_belt (nodes_in c.args.sheet.now) ≤ 32 = search rules in
    record {
      list = list _ _ _ f few _ c.belts.ensures;
      short = short _ _ _ f few _ c.belts.ensures;
      tells = tells _ _ _ f few _ c.belts.ensures;
    }
