use Rattle.std.proofs.Common.{◌≡◌, ◌*◌, ◌^◌, ◌≤◌, drop, ◌+ℤ◌, nat_abs}
use Rattle.terms.specs.Sets.{number_of}
use Rattle.terms.specs.Forms.{value}
use Rattle.terms.specs.Records.{form_in}
use Rattle.terms.proofs.reading.value.Given as goal

abbrev pub invariant-loop-t : goal.invariant-loop-t
invariant-loop-t l =
    (l.sum +ℤ value (form_in (drop l.t-index l.form)) (number_of l.row) ≡ value (form_in l.form) (number_of l.row))
    × (nat_abs l.sum ≤ l.t-index * 2 ^ 63)
