use Rattle.std.proofs.Common.{◌≡◌, ℕ, Bool, false, ◌&&◌, get_or, take, length, is_some, ap, ◌∙◌, arith}
use Rattle.belts.specs.Belts.{roomy, head_of}
use Rattle.banks.specs.Banks.{numbered}
use Rattle.sheet.specs.Views.{nodes_in}
use Rattle.sheet.specs.Wires.{bit, enters, leaves}
use Rattle.sheet.proofs.Counting.{byte_le}
use Rattle.line.proofs.Bytes.{bytes_on, many_on}
use Rattle.line.proofs.Collecting.{length_belts}
use Rattle.line.proofs.events.report.Goals as goal

pub loop-b-preserved : goal.loop-b-preserved
loop-b-preserved g c =
    let bank = g.B.Bank.belts c.args.bank.now in
    let ns = nodes_in c.args.sheet.now in
    let ws = c.args.wires.now in
    let b = c.loop-b.b in
    let pairs = ap (λ k. take k c.belt_wires-table.result) c.belts-n.ensures ∙ c.belt_wires-table.ensures in
    let enter : ℕ → Bool = enters ns ws (λ c. roomy (numbered bank c)) in
    let leave : ℕ → Bool = leaves ns ws (λ c. is_some (head_of (numbered bank c))) in
    let events : c.belt_events-enters.result ≡ (enter b, leave b) =
    c.belt_events-enters.ensures
    ∙ ap (λ q. ((get_or ws q.0 false && roomy (numbered bank b)), (get_or ws q.1 false && is_some (head_of (numbered bank b)))))
    (ap (λ ps. get_or ps b (0, 0)) pairs) in
    let in' = ap (λ q. bit q.0) events in
    let out = ap (λ q. bit q.1) events in
    let inv = c.loop-b.invariant in (
      bytes_on enter leave b _ _ c.loop-b.events c.args.events.now (omega (arith, c.requires, ap length pairs, length_belts ns)) inv.0 (c.from.ensures ∙ in') (c.from-in-loop-b.ensures ∙ out),
      many_on enter b _ _ inv.1 (c.from-entered.ensures ∙ in'),
      many_on leave b _ _ inv.2 (c.from-left.ensures ∙ out),
      omega (arith, inv.3, c.from-entered.ensures, byte_le c.belt_events-enters.result.0),
      omega (arith, inv.4, c.from-left.ensures, byte_le c.belt_events-enters.result.1),
    )
