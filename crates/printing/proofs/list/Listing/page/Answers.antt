use Rattle.std.proofs.Common.{length, ap, arith}
use Rattle.std.proofs.lemmas.List.{length-append}
use Rattle.printing.proofs.Sizes.{fits, names_room, rows_room}
use Rattle.printing.proofs.list.Listing.page.Goals as goal

pub push_names-requires : goal.push_names-requires
push_names-requires c =
    let a = c.args in
    let f = fits a.self.now.belts a.self.now.balances a.self.now.weights.now a.self.now.fit in
    omega (arith, ap length c.new-page.ensures, names_room a.self.now.belts a.self.now.balances a.self.now.weights.now f)

pub push_rows-requires : goal.push_rows-requires
push_rows-requires c =
    let a = c.args in
    let f = fits a.self.now.belts a.self.now.balances a.self.now.weights.now a.self.now.fit in
    omega (arith, ap length c.new-page.ensures, simp length-append at (ap length c.push_names.ensures), names_room a.self.now.belts a.self.now.balances a.self.now.weights.now f, rows_room a.self.now.belts a.self.now.balances a.self.now.weights.now f)
