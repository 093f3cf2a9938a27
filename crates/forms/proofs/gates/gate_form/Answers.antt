use Rattle.std.proofs.Common.{◌+◌, ◌≤◌, not, ◌&&◌, ◌||◌, length, sym, ap, ◌∙◌, ap₂, arith}
use Rattle.terms.specs.Forms.{not_form, and_form, or_form, xor_form}
use Rattle.terms.specs.Laws.{differ}
use Rattle.forms.specs.Gates.{gate_form}
use Rattle.forms.specs.Slots.{slot_forms}
use Rattle.forms.proofs.Slots.{worked_out, product_room_lem, sum_room_lem}
use Rattle.forms.proofs.gates.gate_form.Goals as goal

pub returns-in-Not : goal.returns-in-Not
returns-in-Not c =
    let o = c.operand.ensures in
    let room : length c.operand.result.now + 1 ≤ 624 = omega (arith, o.few) in
    worked_out (λ p q. not_form p) (λ a b. not a) _ _ _ _ _ _ _ c.not_form.ensures room (omega arith) o.easy o.easy
    (ap not_form o.same ∙ ap (gate_form (slot_forms c.args.before.now)) (sym c.in-Not.is))

pub returns-in-And : goal.returns-in-And
returns-in-And c =
    let l = c.operand-in-And.ensures in
    let r = c.operand-in-And-2.ensures in
    worked_out and_form (λ a b. a && b) _ _ _ _ _ _ _ c.and_form.ensures (product_room_lem _ _ l.few r.few) (omega arith) l.easy r.easy
    (ap₂ and_form l.same r.same ∙ ap (gate_form (slot_forms c.args.before.now)) (sym c.in-And.is))

pub returns-in-Or : goal.returns-in-Or
returns-in-Or c =
    let l = c.operand-in-Or.ensures in
    let r = c.operand-in-Or-2.ensures in
    worked_out or_form (λ a b. a || b) _ _ _ _ _ _ _ c.or_form.ensures (sum_room_lem _ _ l.few r.few) (omega arith) l.easy r.easy
    (ap₂ or_form l.same r.same ∙ ap (gate_form (slot_forms c.args.before.now)) (sym c.in-Or.is))

pub returns-in-Xor : goal.returns-in-Xor
returns-in-Xor c =
    let l = c.operand-in-Xor.ensures in
    let r = c.operand-in-Xor-2.ensures in
    worked_out xor_form differ _ _ _ _ _ _ _ c.xor_form.ensures (sum_room_lem _ _ l.few r.few) (omega arith) l.easy r.easy
    (ap₂ xor_form l.same r.same ∙ ap (gate_form (slot_forms c.args.before.now)) (sym c.in-Xor.is))
