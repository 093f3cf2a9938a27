use Rattle.std.proofs.Common.{◌≡◌, ℕ, Bool, true, false, is_some, refl, rules}
use borrow.Author.Tests.{tests}
use Rattle.std.proofs.lemmas.Iterator.{first_from_Range}
use Rattle.belts.specs.Belts.{head_of}
use Rattle.banks.specs.Banks.{numbered}
use Rattle.line.proofs.Lowest.{lowest_found}
use Rattle.line.proofs.checks.laden_belt.Goals as goal

pub returns : goal.returns
returns g c =
    let ms = g.B.Bank.belts c.args.bank.now in
    let test : ℕ → Bool = λ k. is_some (head_of (numbered ms k)) in
    lowest_found (λ b m. is_some (head_of m)) ms test _ c.find.result c.size.ensures (λ k l. refl)
    (first_from_Range _ _ _ c.find.result (λ k. test k ≡ true) (λ k. test k ≡ false) c.find.ensures.ran (λ x q k. search (rules, tests)) (λ x q k. search (rules, tests)))
