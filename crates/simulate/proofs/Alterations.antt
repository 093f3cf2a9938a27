-- One ring altered is one belt of the bank altered. Assumes nothing.
use Rattle.std.specs.Prelude.{◌≡◌, ℕ, ◌<◌, List, map, length, slice_index_or, slice_set}
use Rattle.std.proofs.Common.{sym, ap, ◌∙◌}
use Rattle.std.proofs.lemmas.List.{map-set, get_or-map}
use Rattle.belts.specs.Belts.{Model}
use Rattle.belts.specs.Layouts.{ring_of}
use Rattle.belts.specs.declared.ring.Ring.{Ring}
use Rattle.banks.specs.Banks.{absent, altered}

pub one_altered : (f : Model → Model) (rings : List Ring) (i : ℕ) (d before after : Ring) → i < length rings → before ≡ slice_index_or rings i d
    → ring_of after ≡ f (ring_of before) → map ring_of (slice_set rings i after) ≡ altered f i (map ring_of rings)
one_altered f rings i d before after lt e h =
    map-set ring_of rings i after ∙ ap (slice_set (map ring_of rings) i) (h ∙ ap f (ap ring_of e ∙ sym (get_or-map ring_of rings i d absent lt)))
