use Rattle.std.proofs.Common.{sym, ap, ◌∙◌}
use Rattle.belts.specs.Belts.{in_series}
use Rattle.belts.proofs.Moves.{series_move}
use Rattle.belts.proofs.series.Series.move_up.Goals as goal

pub loop-self-preserved : goal.loop-self-preserved
loop-self-preserved g c =
    let a = g.F.Belt.model c.loop-self.self.front in
    let b = g.R.Belt.model c.loop-self.self.rear in
    let moved = series_move a b c.in-Some.word (sym c.loop-self-test.ensures) c.in-Some.ensures.said in
    ap (λ x. in_series x (g.R.Belt.model c.take.new.self)) c.put.ensures.kept
    ∙ ap (in_series _) c.take.ensures.kept ∙ moved ∙ c.loop-self.invariant
