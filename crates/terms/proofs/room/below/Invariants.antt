use Rattle.std.proofs.Common.{◌≡◌, ◌+◌, ◌<◌, drop}
use Rattle.terms.specs.Forms.{norm}
use Rattle.terms.specs.Records.{form_in}
use Rattle.terms.proofs.room.below.Given as goal

abbrev pub invariant-loop-t : goal.invariant-loop-t
invariant-loop-t l = (l.sum + norm (form_in (drop l.t-index l.form)) ≡ norm (form_in l.form)) × (l.sum < l.limit)
