use Rattle.std.proofs.Common.{rules}
use Rattle.belts.specs.Belts.{taking}
use Rattle.simulate.proofs.Alterations.{one_altered}
use Rattle.simulate.proofs.rings.calls.RingsBank.take.Goals as goal

pub returns-then-i-len-clause-kept : goal.returns-then-i-len-clause-kept
returns-then-i-len-clause-kept c = one_altered taking c.args.self.now.rings.items c.args.i _ c.index_mut.result.now c.take.new.self (search rules) c.index_mut.ensures.value c.take.ensures.kept
