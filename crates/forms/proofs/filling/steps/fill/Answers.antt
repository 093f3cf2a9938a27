use Rattle.std.proofs.Common.{◌<◌, length, refl, ap, sym, ◌∙◌, arith, length-set}
use Rattle.std.proofs.lemmas.Result.{err_from_is_err_and}
use Rattle.forms.specs.Gates.{limits}
use Rattle.forms.proofs.Filled.{none_filled, wires_left, place_few, limits_here, filled_on}
use Rattle.forms.proofs.Numbered.{limit_number}
use Rattle.forms.proofs.filling.steps.fill.Goals as goal

pub loop-i-init : goal.loop-i-init
loop-i-init c = (none_filled c.nodes-node-items.result.now c.args.slots.now, refl)

pub line-requires : goal.line-requires
line-requires c =
    let k = c.loop-i.invariant.0 in
    let ns = c.nodes-node-items.result.now in
    let lawful = c.nodes-node-items.ensures.lawful in
    let ss = c.loop-i.slots in
    let l : c.loop-i.i < length ss = omega (arith, lawful.lines, c.loop-i.invariant.1) in
    record {
      place = omega (arith, lawful.lines, place_few ns ss c.loop-i.i _ _ (omega arith) l k);
      wires = wires_left ns ss c.loop-i.i _ _ (omega arith) l k lawful.free;
    }

pub returns-in_err-slot : goal.returns-in_err-slot
returns-in_err-slot c =
    let p = err_from_is_err_and c.from_residual.result c.from_residual.ensures.1 in
    let l : c.loop-i.i < length c.loop-i.slots = omega (arith, c.nodes-node-items.ensures.lawful.lines, c.loop-i.invariant.1) in
    let e = ap limits (sym c.nodes-node-items.ensures.same) ∙ limits_here c.nodes-node-items.result.now c.loop-i.slots c.loop-i.i _ _ (omega arith) l c.loop-i.invariant.0 _ c.in_err-slot.ensures in
    rw (p.1, p.2) (record { exact = e; numbers = limit_number _ _ e; all = c.loop-i.invariant.1 })

pub loop-i-preserved : goal.loop-i-preserved
loop-i-preserved c =
    let ss = c.loop-i.slots in
    let t = c.in_ok-slot.ensures in
    let l : c.loop-i.i < length c.loop-i.slots = omega (arith, c.nodes-node-items.ensures.lawful.lines, c.loop-i.invariant.1) in (
      filled_on c.nodes-node-items.result.now ss c.loop-i.i _ _ (omega arith) l c.loop-i.invariant.0 c.in_ok-slot.slot _ _ t.0 t.1 t.2,
      length-set ss c.loop-i.i _ ∙ c.loop-i.invariant.1,
    )
