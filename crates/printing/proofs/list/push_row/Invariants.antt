use Rattle.std.proofs.Common.{◌≡◌, ◌++◌, map, drop}
use Rattle.std.specs.Fmt.{signed_decimal}
use Rattle.printing.specs.Pages.{text_on}
use Rattle.printing.specs.Printing.{row_text}
use Rattle.printing.proofs.Lines.{rest_of}
use Rattle.printing.proofs.list.push_row.Given as goal

abbrev pub invariant-loop-i : goal.invariant-loop-i
invariant-loop-i l = text_on l.page ++ rest_of l.i (map signed_decimal (drop l.i l.row)) ≡ text_on l.initial.page ++ row_text l.row
