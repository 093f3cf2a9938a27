use Rattle.std.proofs.Common.{◌≡◌, ◌*◌, ◌≤◌, ◌++◌, drop, is_some}
use Rattle.belts.specs.Belts.{roomy, head_of}
use Rattle.banks.specs.Banks.{numbered}
use Rattle.sheet.specs.Wires.{enters, leaves}
use Rattle.line.specs.Lines.{event_bytes, how_many}
use Rattle.sheet.specs.Views.{nodes_in}
use Rattle.line.proofs.events.report.Given as goal

abbrev pub invariant-loop-b : goal.invariant-loop-b
invariant-loop-b g l =
    let bank = g.B.Bank.belts l.bank in
    let enter = enters (nodes_in l.sheet) l.wires (λ c. roomy (numbered bank c)) in
    let leave = leaves (nodes_in l.sheet) l.wires (λ c. is_some (head_of (numbered bank c))) in
    (l.events ≡ event_bytes enter leave l.b ++ drop (2 * l.b) l.initial.events)
    × (l.entered ≡ how_many enter l.b) × (l.left ≡ how_many leave l.b) × (l.entered ≤ l.b) × (l.left ≤ l.b)
