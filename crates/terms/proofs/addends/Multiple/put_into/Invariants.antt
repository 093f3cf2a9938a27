use Rattle.std.proofs.Common.{◌≡◌, ◌+◌, ◌*◌, ◌^◌, ◌<◌, ◌≤◌, take, drop, nat_abs}
use Rattle.terms.specs.Sets.{number_of}
use Rattle.terms.specs.Forms.{add_all, scaled, norm}
use Rattle.terms.specs.Records.{form_in}
use Rattle.terms.proofs.addends.Multiple.put_into.Given as goal

abbrev pub invariant-loop-u : goal.invariant-loop-u
invariant-loop-u l =
    (add_all (form_in (take l.n l.work)) (scaled (number_of l.self.set.now) l.self.factor (form_in (drop l.u-index l.self.form.now)))
    ≡ add_all (form_in (take l.initial.n l.initial.work)) (scaled (number_of l.self.set.now) l.self.factor (form_in l.self.form.now)))
    × (norm (form_in (take l.n l.work)) + nat_abs l.self.factor * norm (form_in (drop l.u-index l.self.form.now)) < 2 ^ 63)
    × (l.n ≤ l.initial.n + l.u-index)
    × (drop (l.initial.n + l.u-index) l.work ≡ drop (l.initial.n + l.u-index) l.initial.work)
