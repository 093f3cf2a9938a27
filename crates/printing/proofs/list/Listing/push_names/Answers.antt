use Rattle.std.proofs.Common.{◌++◌, map, ap, arith}
use Rattle.std.specs.List.{range_with_len}
use Rattle.printing.specs.Pages.{text_on}
use Rattle.printing.specs.Printing.{line_of, name_of}
use Rattle.printing.proofs.Lines.{names_left, names_whole, room_for_gap, room_for_word, word_after}
use Rattle.printing.proofs.list.Listing.push_names.Goals as goal

pub loop-belt-init : goal.loop-belt-init
loop-belt-init c = ap (λ x. text_on c.args.page.now ++ x) (names_whole c.args.self.now.belts)

pub push_gap-requires : goal.push_gap-requires
push_gap-requires c =
    let l = c.loop-belt in
    let line = line_of (map name_of (range_with_len 0 c.args.self.now.belts)) in
    room_for_gap (text_on c.args.page.now) line (text_on l.page) l.belt c.requires _ l.invariant (names_left l.belt c.args.self.now.belts (omega arith))

pub push_name-requires-clause-room : goal.push_name-requires-clause-room
push_name-requires-clause-room c =
    let l = c.loop-belt in
    let line = line_of (map name_of (range_with_len 0 c.args.self.now.belts)) in
    room_for_word (text_on c.args.page.now) line (text_on l.page) l.belt c.requires _ l.invariant (names_left l.belt c.args.self.now.belts (omega arith)) _ c.push_gap.ensures

pub loop-belt-preserved : goal.loop-belt-preserved
loop-belt-preserved c =
    let l = c.loop-belt in
    let line = line_of (map name_of (range_with_len 0 c.args.self.now.belts)) in
    word_after (text_on c.args.page.now) line (text_on l.page) l.belt c.requires _ l.invariant (names_left l.belt c.args.self.now.belts (omega arith)) _ _ c.push_gap.ensures c.push_name.ensures
