use Rattle.std.proofs.Common.{◌≡◌, ℕ, Bool, true, false, ltb, get_or, count_by, sym, ap, arith, rules}
use borrow.Author.Tests.{tests}
use Rattle.std.proofs.lemmas.Iterator.{first_from_Range}
use Rattle.sheet.specs.Nodes.{is_bit_of}
use Rattle.sheet.specs.Views.{nodes_in}
use Rattle.banks.specs.Banks.{numbered}
use Rattle.line.proofs.Lowest.{lowest_found}
use Rattle.line.proofs.checks.narrow_belt.Goals as goal

pub returns : goal.returns
returns g c =
    let ms = g.B.Bank.belts c.args.bank.now in
    let few = (g.met.B.Bank.sized c.args.bank.now).1 in
    let test : ℕ → Bool = λ k. ltb (numbered ms k).width (get_or c.all-numbers.result.bits k 0) in
    lowest_found (λ b m. ltb m.width (count_by (is_bit_of b) (nodes_in c.args.sheet.now))) ms test _ c.find.result c.size.ensures
    (λ k l. sym (ap (ltb (numbered ms k).width) (c.all-numbers.ensures.bits k (omega (arith, c.size.ensures)))))
    (first_from_Range _ _ _ c.find.result (λ k. test k ≡ true) (λ k. test k ≡ false) c.find.ensures.ran (λ x q k. search (rules, tests)) (λ x q k. search (rules, tests)))
