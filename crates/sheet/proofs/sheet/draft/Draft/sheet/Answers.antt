use Rattle.std.proofs.Common.{arith}
use Rattle.sheet.proofs.Drafting.{before}
use Rattle.sheet.proofs.Lowest.{all_named, all_complete}
use Rattle.sheet.proofs.sheet.draft.Draft.sheet.Goals as goal

pub invariant_of-result : goal.invariant_of-result
invariant_of-result c =
    let d = c.args.self.now in
    let named = all_named (before d) c.requires.named in
    let complete = all_complete (before d) c.requires.complete in
    record {
      whole = d.whole;
      few = d.few;
      belts = omega (arith, d.counted, d.narrow);
      free = omega (arith, d.tallied, d.small);
      ordered = d.ordered;
      named = named;
      complete = complete;
    }
