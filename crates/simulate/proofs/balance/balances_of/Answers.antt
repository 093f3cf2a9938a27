use Rattle.std.proofs.Common.{◌≡◌, max, count_by, replicate, pos, arith}
use Rattle.sheet.specs.Nodes.{is_belt}
use Rattle.sheet.specs.Views.{nodes_in}
use Rattle.simulate.proofs.Watching.{written_of, watched_are, watched_fit}
use Rattle.simulate.proofs.balance.balances_of.Goals as goal

pub balances_from-requires-clause-enough : goal.balances_from-requires-clause-enough
balances_from-requires-clause-enough c =
    let ns = nodes_in c.args.sheet.now in
    let after = c.derive.new.weights in
    let size : c.max.result ≡ max (count_by is_belt ns) 1 = omega (arith, c.max.ensures, c.belts.ensures) in
    let wrote = written_of ns (replicate 1024 (pos 0)) after c.in_ok-count.count c.args.kind _ c.in_ok-count.was c.derive.ensures in
    watched_fit c.args.kind ns _ _ _ wrote size c.args.sheet.now.belts (omega (arith, c.derive.auto.weights))

pub returns : goal.returns
returns c =
    let ns = nodes_in c.args.sheet.now in
    let after = c.derive.new.weights in
    let size : c.max.result ≡ max (count_by is_belt ns) 1 = omega (arith, c.max.ensures, c.belts.ensures) in
    let wrote = written_of ns (replicate 1024 (pos 0)) after c.in_ok-count.count c.args.kind _ c.in_ok-count.was c.derive.ensures in
    watched_are c.args.kind ns _ _ _ _ wrote size c.in_ok-balances_from.ensures
