use Rattle.std.proofs.Common.{arith}
use Rattle.std.specs.List.{flat_map}
use Rattle.printing.specs.Pages.{text_on}
use Rattle.printing.specs.Printing.{row_text, rows_of}
use Rattle.printing.proofs.Lines.{row_within, room_for_row, row_after}
use Rattle.printing.proofs.list.Listing.push_rows.Goals as goal

pub push_row-requires : goal.push_row-requires
push_row-requires c =
    let a = c.args in
    room_for_row a.self.now.belts a.self.now.balances c.loop.counter c.loop.rest.now (omega arith)
    (text_on a.page.now) (flat_map row_text (rows_of a.self.now.belts a.self.now.balances a.self.now.weights.now)) (text_on c.loop.page) c.loop.invariant.1
    c.split_at.result.0.now c.split_at.ensures.front c.requires

pub loop-preserved : goal.loop-preserved
loop-preserved c =
    let a = c.args in (
      omega (arith, (row_within a.self.now.belts a.self.now.balances c.loop.counter c.loop.rest.now (omega arith) c.loop.invariant.0).1, c.split_at.ensures.back_len),
      row_after a.self.now.belts a.self.now.balances c.loop.counter c.loop.rest.now (omega arith)
          (text_on a.page.now) (flat_map row_text (rows_of a.self.now.belts a.self.now.balances a.self.now.weights.now)) (text_on c.loop.page) c.loop.invariant.1
          (text_on c.push_row.new.page) c.split_at.result.0.now c.split_at.result.1.now c.split_at.ensures.front c.split_at.ensures.back c.push_row.ensures,
    )
