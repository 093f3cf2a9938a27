use Rattle.std.proofs.Common.{length, ap, arith}
use Rattle.std.proofs.lemmas.List.{length-append}
use Rattle.printing.proofs.Lines.{ten_digits}
use Rattle.printing.proofs.refusal.refusal_page.Goals as goal

pub push_number-requires : goal.push_number-requires
push_number-requires c =
    omega (arith, ap length c.new-page.ensures, simp length-append at (ap length c.push_text.ensures), ten_digits c.from-number.result (omega arith))

pub push_text-requires-2 : goal.push_text-requires-2
push_text-requires-2 c =
    omega (arith, ap length c.new-page.ensures, simp length-append at (ap length c.push_text.ensures), simp length-append at (ap length c.push_number.ensures), ten_digits c.from-number.result (omega arith))

pub push_number-requires-2 : goal.push_number-requires-2
push_number-requires-2 c =
    omega (arith, ap length c.new-page.ensures, simp length-append at (ap length c.push_text.ensures), simp length-append at (ap length c.push_number.ensures), simp length-append at (ap length c.push_text-2.ensures), ten_digits c.from-number.result (omega arith), ten_digits c.from-place.result (omega arith))

pub end_line-requires : goal.end_line-requires
end_line-requires c =
    omega (arith, ap length c.new-page.ensures, simp length-append at (ap length c.push_text.ensures), simp length-append at (ap length c.push_number.ensures), simp length-append at (ap length c.push_text-2.ensures), simp length-append at (ap length c.push_number-2.ensures), ten_digits c.from-number.result (omega arith), ten_digits c.from-place.result (omega arith))
