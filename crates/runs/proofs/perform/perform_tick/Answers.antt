use Rattle.line.specs.Views.{view}
use Rattle.runs.specs.declared.calls.Answer.TheVariants.{Ticked}
use Rattle.runs.proofs.Performing.{ticked_in}
use Rattle.runs.proofs.perform.perform_tick.Goals as goal

pub returns : goal.returns
returns g c =
    let v = view g.B.Bank.belts in
    ticked_in (λ p. Ticked p.0 p.1) (v c.args.line.now) c.args.sensors.now c.args.memory c.min-n.result c.tick.result c.tick.new.events
    c.from-answer.result (v c.tick.new.self) c.min-n.ensures c.from-answer.ensures c.tick.ensures.exact
