use Rattle.std.proofs.Common.{[], ◌∷◌, ap, ap₂, ◌++◌, ◌∙◌, map}
use Rattle.std.proofs.lemmas.List.{map-append, replicate-append-replicate}
use Rattle.belts.specs.Belts.{made}
use Rattle.belts.specs.Layouts.{ring_of}
use Rattle.simulate.proofs.rings.calls.alike.Goals as goal

pub loop-preserved : goal.loop-preserved
loop-preserved c =
    let places = c.args.places in
    ap (map ring_of) c.in_ok-push.ensures.items ∙ map-append ring_of c.loop.rings.items _
    ∙ ap₂ (λ xs m. xs ++ m ∷ []) c.loop.invariant c.new.ensures ∙ replicate-append-replicate c.loop.counter 1 (made places 4)
