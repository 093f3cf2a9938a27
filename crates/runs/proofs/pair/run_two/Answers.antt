use Rattle.std.proofs.Common.{◌≡◌, ◌≤◌, true, false, ◌++◌, length, take, drop, ap, ◌∙◌, ap₂, arith}
use Rattle.line.specs.Views.{view}
use Rattle.runs.specs.Runs.{afterwards}
use Rattle.runs.specs.Pairs.{calls_for, woven}
use Rattle.runs.proofs.Pairing.{log_is, first_alone, second_alone}
use Rattle.runs.proofs.pair.run_two.Goals as goal

pub returns : goal.returns
returns g c =
    let s = view g.A.Bank.belts c.new-first.result in
    let t = view g.C.Bank.belts c.new-second.result in
    let one = g.A.Bank.belts c.args.one in
    let two = g.C.Bank.belts c.args.two in
    let sheets = c.args.sheets.now in
    let os = c.args.orders.now in
    let before = c.args.log.now in
    let log = c.log_orders.new.log in
    let n = c.min-done.result in
    let few : n ≤ length os = omega (arith, c.min-done.ensures) in
    let front : c.split_at.result.0.now ≡ take n os = c.split_at.ensures.front in
    let size : length c.split_at.result.0.now ≡ n = c.split_at.ensures.front_len in
    let told : log ≡ woven sheets s t (take n os) ++ drop n before = c.log_orders.ensures.log ∙ ap₂ (λ xs k. woven sheets s t xs ++ drop k before) front size in
    record {
      many = c.min-done.ensures;
      log = log_is sheets s t one two c.new-first.ensures c.new-second.ensures os before log n few told;
      first = first_alone sheets s t one two c.new-first.ensures c.new-second.ensures os before log n few told (λ b. (g.met.A.Bank.small c.args.one b).0) _ (c.log_orders.ensures.first ∙ ap (λ xs. afterwards sheets s (calls_for false xs)) front);
      second = second_alone sheets s t one two c.new-first.ensures c.new-second.ensures os before log n few told (λ b. (g.met.C.Bank.small c.args.two b).0) _ (c.log_orders.ensures.second ∙ ap (λ xs. afterwards sheets t (calls_for true xs)) front);
    }
