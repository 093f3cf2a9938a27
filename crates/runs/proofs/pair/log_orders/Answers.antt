use Rattle.std.proofs.Common.{◌<◌, true, false, length, get_or, set, ap, ◌∙◌, ap₂, arith}
use Rattle.line.specs.Lines.{State}
use Rattle.line.specs.Views.{view}
use Rattle.runs.specs.declared.calls.Call.TheVariants.{Mount}
use Rattle.runs.specs.declared.calls.Order.{Order}
use Rattle.runs.specs.declared.calls.Order.TheVariants.{First}
use Rattle.runs.specs.Pairs.{obeyed, report_of}
use Rattle.runs.proofs.Pairing.{line_on, log_on}
use Rattle.runs.proofs.pair.log_orders.Goals as goal

pub loop-i-preserved : goal.loop-i-preserved
loop-i-preserved g c =
    let s = view g.A.Bank.belts c.args.one.now in
    let t = view g.C.Bank.belts c.args.two.now in
    let sheets = c.args.sheets.now in
    let os = c.args.orders.now in
    let i = c.loop-i.i in
    let d : Order = First (Mount 0) in
    let lt : i < length os = omega arith in
    let some : i < length c.args.log.now = omega (arith, c.requires) in (
      ap (set c.loop-i.log i) (c.obey.ensures.report ∙ ap₂ (λ (x y : State). report_of sheets x y (get_or os i d)) c.loop-i.invariant.1 c.loop-i.invariant.2)
          ∙ log_on sheets s t os c.loop-i.log c.args.log.now i d lt some c.loop-i.invariant.0,
      c.obey.ensures.first ∙ ap (λ z. obeyed false sheets z (get_or os i d)) c.loop-i.invariant.1 ∙ line_on sheets false s os i d lt,
      c.obey.ensures.second ∙ ap (λ z. obeyed true sheets z (get_or os i d)) c.loop-i.invariant.2 ∙ line_on sheets true t os i d lt,
    )
