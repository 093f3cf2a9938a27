use Rattle.std.proofs.Common.{◌≡◌, map, take}
use Rattle.terms.specs.Records.{form_in, term_of}
use Rattle.terms.proofs.Over.{over}
use Rattle.terms.proofs.merging.put_form.Given as goal

abbrev pub invariant-loop-i : goal.invariant-loop-i
invariant-loop-i l =
    (l.work ≡ over l.initial.work l.form l.i)
    × (map term_of (form_in (take l.i l.form)) ≡ take l.i l.form)
