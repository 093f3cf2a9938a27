use Rattle.std.proofs.Common.{◌≡◌, ◌-◌, ◌*◌, ◌≤◌, ◌++◌, length}
use Rattle.std.specs.List.{flat_map}
use Rattle.printing.specs.Pages.{text_on}
use Rattle.printing.specs.Printing.{row_text, rows_of}
use Rattle.printing.proofs.list.Listing.push_rows.Given as goal

abbrev pub invariant-loop : goal.invariant-loop
invariant-loop l =
    (l.self.belts * (l.self.balances - l.counter) ≤ length l.rest)
    × (text_on l.page ++ flat_map row_text (rows_of l.self.belts (l.self.balances - l.counter) l.rest) ≡ text_on l.initial.page ++ flat_map row_text (rows_of l.self.belts l.self.balances l.self.weights.now))
