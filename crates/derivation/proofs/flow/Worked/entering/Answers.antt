use Rattle.std.proofs.Common.{◌^◌, ◌<◌, ◌&&◌, subst, ap₂, arith}
use Rattle.terms.specs.Forms.{and_form, norm}
use Rattle.forms.proofs.Slots.{product_room_lem, worked_out, surely}
use Rattle.derivation.proofs.Working.{product_norm}
use Rattle.derivation.proofs.flow.Worked.entering.Goals as goal

pub returns : goal.returns
returns c =
    let one = c.line.ensures in
    let other = c.line-2.ensures in
    let same = ap₂ and_form one.same other.same in
    record {
      front =
          surely _ _ _ _ _
          (worked_out and_form (λ a b. a && b) _ _ _ _ _ _ _ c.and_form.ensures (product_room_lem _ _ one.few other.few) (omega arith) one.easy other.easy same)
          c.unwrap_or.ensures;
      small = subst (λ p. norm p < 2 ^ 62) same (product_norm _ _ one.easy other.easy);
    }
