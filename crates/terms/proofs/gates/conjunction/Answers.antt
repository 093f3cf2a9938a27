use Rattle.std.proofs.Common.{◌+◌, ◌*◌, length, refl, arith}
use Rattle.terms.specs.Forms.{and_form}
use Rattle.terms.specs.Records.{form_in}
use Rattle.terms.proofs.Recorded.{onward}
use Rattle.terms.proofs.gates.conjunction.Goals as goal

pub returns : goal.returns
returns c =
    let W = c.args.work.now in
    let p = and_form (form_in c.args.one.now) (form_in c.args.other.now) in
    let n = length c.args.one.now * length c.args.other.now in
    onward (0 + n) n c.put_into.result p p W c.put_into.new.work W c.put_into.ensures refl (omega arith) refl
