use Rattle.std.proofs.Common.{◌++◌, map, get_or, pos, sym, refl, ap, arith, w32, SFits, rules}
use Rattle.std.specs.Fmt.{signed_decimal}
use Rattle.std.proofs.lemmas.Int.{to_z-of_z}
use Rattle.printing.specs.Pages.{text_on}
use Rattle.printing.specs.Printing.{row_text}
use Rattle.printing.proofs.Lines.{line_rest, weights_left, room_for_gap, room_for_word}
use Rattle.printing.proofs.list.push_row.Goals as goal

pub loop-i-init : goal.loop-i-init
loop-i-init c = ap (λ x. text_on c.args.page.now ++ x) (sym (line_rest (map signed_decimal c.args.row.now)))

pub push_gap-requires : goal.push_gap-requires
push_gap-requires c =
    let l = c.loop-i in
    let row = c.args.row.now in
    let z = get_or row l.i (pos 0) in
    room_for_gap (text_on c.args.page.now) (row_text row) (text_on l.page) l.i c.requires _ l.invariant (weights_left l.i row z refl (omega arith))

pub push_weight-requires : goal.push_weight-requires
push_weight-requires c =
    let l = c.loop-i in
    let row = c.args.row.now in
    let fits : SFits w32 (get_or row l.i (pos 0)) = search rules in
    room_for_word (text_on c.args.page.now) (row_text row) (text_on l.page) l.i c.requires _ l.invariant (weights_left l.i row _ (to_z-of_z w32 (get_or row l.i (pos 0)) fits) (omega arith)) _ c.push_gap.ensures
