use Rattle.std.proofs.Common.{sym, ap, ◌∙◌, length-set}
use Rattle.sheet.specs.Wires.{bit}
use Rattle.sheet.proofs.Drafting.{fits, belts_counted, free_counted, stays_ordered, stays_tallied}
use Rattle.sheet.proofs.sheet.draft.Draft.push.Goals as goal

pub invariant_of-self : goal.invariant_of-self
invariant_of-self c =
    let d = c.args.self.now in
    let n = c.args.node in
    let eb = c.from.ensures ∙ ap bit c.is_belt.ensures in
    let ef = c.from-2.ensures ∙ ap bit c.is_free.ensures in
    let s = sym c.if-not-sizes_fit.ensures in
    let o = sym c.if-not-order_fits.ensures in
    let z = fits d n _ _ eb ef s o in
    record {
      whole = length-set d.nodes d.len n ∙ d.whole;
      few = z.lines_fit;
      counted = belts_counted d n _ _ eb ef s o;
      tallied = free_counted d n _ _ eb ef s o;
      narrow = z.belts_fit;
      small = z.free_fit;
      ordered = stays_ordered d n _ _ eb ef s o;
      shared = stays_tallied d n _ _ eb ef s o _ _ d.shared c.add.ensures;
    }
