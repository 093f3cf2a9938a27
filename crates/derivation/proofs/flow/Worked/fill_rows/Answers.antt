use Rattle.std.proofs.Common.{rules, ◌+◌, ◌-◌, ◌*◌, ◌≤◌, ◌++◌, length, take, drop, sym, ap, ◌∙◌, mul-le-mul, arith}
use borrow.Rule.Slice.PartMut.{same_len_mid}
use Rattle.std.proofs.lemmas.List.{length-drop, length-take-le}
use Rattle.std.proofs.lemmas.Slice.{take-put_mid}
use Rattle.sheet.specs.Views.{nodes_in}
use Rattle.derivation.proofs.Walking.{rows_more, rows_all}
use Rattle.derivation.proofs.flow.Worked.fill_rows.Goals as goal

pub loop-b-preserved : goal.loop-b-preserved
loop-b-preserved c =
    let m = length c.args.columns.now in
    let b = c.loop-b.b in
    let numbers = c.loop-b.numbers in
    let row = c.fill_row.new.row in
    let last : b ≤ 31 = search rules in
    let whole : b * m ≤ 31 * 256 = mul-le-mul last c.requires in
    let part = length-take-le (b * m + m - b * m) (drop (b * m) numbers) (omega (arith, whole, c.loop-b.invariant.0, c.requires, length-drop (b * m) numbers)) in
    let written = take-put_mid (b * m) _ numbers row (b * m + m) (omega (arith, c.fill_row.auto.row, part)) (omega (arith, whole, c.loop-b.invariant.0)) in (
      same_len_mid (b * m) _ numbers row c.fill_row.auto.row ∙ c.loop-b.invariant.0,
      rows_more _ (nodes_in c.args.self.now.sheet.now) _ m b numbers _ _ _ (omega (arith, c.belts-b-end.ensures)) c.flow-n.ensures.form (written ∙ ap (λ zs. take (b * m) numbers ++ zs) c.fill_row.ensures)
          ∙ c.loop-b.invariant.1,
    )

pub returns : goal.returns
returns c = sym (rows_all _ (nodes_in c.args.self.now.sheet.now) _ _ c.loop-b.b _ (omega (arith, c.loop-b.auto.b-end, c.belts-b-end.ensures))) ∙ c.loop-b.invariant.1
