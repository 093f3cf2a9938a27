use Rattle.std.proofs.Common.{◌≡◌, true, false, sym, refl, ap, ◌∙◌}
use Rattle.belts.specs.Belts.{roomy, joining, in_series}
use Rattle.belts.proofs.Moves.{series_front, series_rear, series_rear_room, put_joins}
use Rattle.belts.proofs.series.Series.append.Goals as goal

pub returns-then-put-clause-joined : goal.returns-then-put-clause-joined
returns-then-put-clause-joined g c =
    let a = g.F.Belt.model c.move_up.new.self.front in
    let b = g.R.Belt.model c.move_up.new.self.rear in
    let room : roomy a ≡ true = sym c.if-put.ensures.said in
    let e = series_front a b c.args.word (c.move_up.ensures.settled room) in
    ap (λ m. in_series m b) (c.put.ensures.kept ∙ put_joins a c.args.word room) ∙ e ∙ ap (joining c.args.word) c.move_up.ensures.same

pub returns-else-put-clause-joined : goal.returns-else-put-clause-joined
returns-else-put-clause-joined g c =
    let a = g.F.Belt.model c.move_up.new.self.front in
    let b = g.R.Belt.model c.move_up.new.self.rear in
    let full : roomy a ≡ false = sym c.if-put.ensures.said in
    let room = series_rear_room a b full (ap roomy c.move_up.ensures.same ∙ c.requires) in
    let stays : g.F.Belt.model c.put.new.self ≡ a = c.put.ensures.kept ∙ rw full refl in
    ap (λ m. in_series m (g.R.Belt.model c.put-else-put.new.self)) stays ∙ ap (in_series a) (c.put-else-put.ensures.kept ∙ put_joins b c.args.word room) ∙ series_rear a b c.args.word ∙ ap (joining c.args.word) c.move_up.ensures.same
