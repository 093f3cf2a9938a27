use Rattle.std.proofs.Common.{rules, ◌≡◌, unsigned_abs}
use Rattle.kinds.specs.Kinds.{gcd}
use Rattle.kinds.proofs.Euclid.{none_over}
use Rattle.kinds.proofs.whole.WholeNumber.lowest.Goals as goal

pub returns-then-g-eq0-clause-first : goal.returns-then-g-eq0-clause-first
returns-then-g-eq0-clause-first c =
    let e : gcd (unsigned_abs c.args.c.n) (unsigned_abs c.args.p.n) ≡ 0 = search rules in
    (none_over c.args.c.n c.args.p.n e).0

pub returns-then-g-eq0-clause-second : goal.returns-then-g-eq0-clause-second
returns-then-g-eq0-clause-second c =
    let e : gcd (unsigned_abs c.args.c.n) (unsigned_abs c.args.p.n) ≡ 0 = search rules in
    (none_over c.args.c.n c.args.p.n e).1
