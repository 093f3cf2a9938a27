use Rattle.std.proofs.Common.{rules}
use Rattle.belts.specs.Belts.{putting}
use Rattle.simulate.proofs.Alterations.{one_altered}
use Rattle.simulate.proofs.rings.calls.RingsBank.put.Goals as goal

pub returns-then-i-len-clause-kept : goal.returns-then-i-len-clause-kept
returns-then-i-len-clause-kept c = one_altered (putting c.args.word) c.args.self.now.rings.items c.args.i _ c.index_mut.result.now c.put.new.self (search rules) c.index_mut.ensures.value c.put.ensures.kept
