use Rattle.std.proofs.Common.{◌≡◌, ◌<◌, length, get_or, set, ap, ◌∙◌, arith}
use Rattle.line.specs.Lines.{State}
use Rattle.line.specs.Views.{view}
use Rattle.runs.specs.declared.calls.Call.TheVariants.{Mount}
use Rattle.runs.specs.Runs.{Turn, performed}
use Rattle.runs.proofs.Driving.{line_on, log_on, law_of}
use Rattle.runs.proofs.drive.log_calls.Goals as goal

pub loop-i-preserved : goal.loop-i-preserved
loop-i-preserved g c =
    let s = view g.B.Bank.belts c.args.line.now in
    let sheets = c.args.sheets.now in
    let cs = c.args.calls.now in
    let i = c.loop-i.i in
    let lt : i < length cs = omega arith in
    let some : i < length c.args.log.now = omega (arith, c.requires) in
    let one = c.perform.ensures ∙ ap (λ (z : State). performed sheets z (get_or cs i (Mount 0))) c.loop-i.invariant.1 in (
      ap (λ (t : Turn). set c.loop-i.log i t.report) one ∙ log_on sheets s cs c.loop-i.log c.args.log.now i (Mount 0) lt some c.loop-i.invariant.0,
      ap (λ (t : Turn). t.after) one ∙ line_on sheets s cs i (Mount 0) lt,
    )

pub returns-clause-law : goal.returns-clause-law
returns-clause-law g c =
    let v = view g.B.Bank.belts in
    let s = v c.args.line.now in
    let sheets = c.args.sheets.now in
    let cs = c.args.calls.now in
    let end : c.loop-i.i ≡ length cs = omega arith in
    let log = rw end at c.loop-i.invariant.0 in
    let so = rw end at c.loop-i.invariant.1 in
    law_of sheets s cs (v c.loop-i.line) c.loop-i.log _ (length cs) (omega arith) log so (λ b. (g.met.B.Bank.small c.args.line.now.bank b).0)
