use Rattle.std.proofs.Common.{◌≡◌, true, sym, subst}
use Rattle.terms.specs.Records.{light}
use Rattle.forms.proofs.Slots.{light_held}
use Rattle.forms.proofs.slot.Slot.hold.Goals as goal

pub invariant_of-result : goal.invariant_of-result
invariant_of-result c =
    let e = c.copied.ensures in
    record {
      whole = e.whole;
      few = c.requires.few;
      easy = subst (λ ts. light ts ≡ true) (sym e.front) (light_held c.args.form.now c.requires.few c.requires.small);
    }
