use Rattle.std.proofs.Common.{arith}
use Rattle.forms.specs.Slots.{forms_in}
use Rattle.derivation.specs.Ports.{ports_in}
use Rattle.derivation.proofs.Working.{taken, flow_formed}
use Rattle.derivation.proofs.flow.Worked.passing.Goals as goal

pub returns-clause-form : goal.returns-clause-form
returns-clause-form c =
    let one = c.line.ensures in
    let other = c.line-2.ensures in
    let first = c.entering-used.ensures in
    let t = taken _ _ _ _ _ _ _ _ first.front.form first.front.bound (omega arith) first.small one.few other.few one.easy other.easy c.add_product.ensures c.unwrap_or.ensures in
    (flow_formed (forms_in c.args.self.now.forms.now) (ports_in c.args.ports) _ _ _ _ t one.same other.same).form
