use Rattle.std.proofs.Common.{◌≡◌, ◌-◌, ◌++◌, map}
use Rattle.std.specs.List.{range_with_len}
use Rattle.printing.specs.Pages.{text_on}
use Rattle.printing.specs.Printing.{line_of, name_of}
use Rattle.printing.proofs.Lines.{rest_of}
use Rattle.printing.proofs.list.Listing.push_names.Given as goal

abbrev pub invariant-loop-belt : goal.invariant-loop-belt
invariant-loop-belt l = text_on l.page ++ rest_of l.belt (map name_of (range_with_len l.belt (l.self.belts - l.belt))) ≡ text_on l.initial.page ++ line_of (map name_of (range_with_len 0 l.self.belts))
