use Rattle.std.proofs.Common.{◌≡◌, Ok, ap, ◌∙◌}
use Rattle.printing.specs.Printing.{list_text, in_text}
use Rattle.printing.specs.Reading.{reading, listed}
use Rattle.printing.proofs.Readback.{read_back, first_bytes}
use Rattle.printing.proofs.list.Listing.print.Goals as goal

pub returns-clause-readback : goal.returns-clause-readback
returns-clause-readback c =
    let a = c.args in
    let bytes = list_text a.self.now.belts a.self.now.balances a.self.now.weights.now in
    let told = c.copy_to.ensures.exact ∙ ap (λ x. in_text (Ok x) a.text.now) c.page.ensures in
    first_bytes (λ x. reading x ≡ listed a.self.now.belts a.self.now.balances a.self.now.weights.now) _ _ bytes a.text.now (read_back a.self.now.belts a.self.now.balances a.self.now.weights.now a.self.now.fit) told
