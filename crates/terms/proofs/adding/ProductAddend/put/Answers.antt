use Rattle.std.proofs.Common.{nat_abs, arith}
use Rattle.terms.specs.Forms.{norm}
use Rattle.terms.specs.Records.{form_in}
use Rattle.terms.proofs.Fitting.{product_parts}
use Rattle.terms.proofs.Norms.{twice_light}
use Rattle.terms.proofs.adding.ProductAddend.put.Goals as goal

pub put_into-requires-clause-fits : goal.put_into-requires-clause-fits
put_into-requires-clause-fits c =
    let m = c.args.self.now in
    let h = product_parts c.args.work.now c.args.used m.factor m.one.now m.other.now c.requires in
    let n = twice_light (nat_abs m.factor) (norm (form_in m.one.now)) (norm (form_in m.other.now)) h.2 h.3 h.4 in
    omega arith
