use Rattle.std.proofs.Common.{◌≡◌, ◌+◌, ◌*◌, ◌^◌, ◌<◌, ◌≤◌, length, take, drop, nat_abs}
use Rattle.terms.specs.Forms.{add_product, norm}
use Rattle.terms.specs.Records.{form_in}
use Rattle.terms.proofs.addends.Product.put_into.Given as goal

abbrev pub invariant-loop-t : goal.invariant-loop-t
invariant-loop-t l =
    (add_product l.self.factor (form_in (take l.n l.work)) (form_in (drop l.t-index l.self.one.now)) (form_in l.self.other.now)
    ≡ add_product l.self.factor (form_in (take l.initial.n l.initial.work)) (form_in l.self.one.now) (form_in l.self.other.now))
    × (norm (form_in (take l.n l.work)) + nat_abs l.self.factor * norm (form_in (drop l.t-index l.self.one.now)) * norm (form_in l.self.other.now) < 2 ^ 63)
    × (nat_abs l.self.factor * norm (form_in (drop l.t-index l.self.one.now)) < 2 ^ 63)
    × (l.n ≤ l.initial.n + l.t-index * length l.self.other.now)
    × (drop (l.initial.n + l.t-index * length l.self.other.now) l.work ≡ drop (l.initial.n + l.t-index * length l.self.other.now) l.initial.work)
