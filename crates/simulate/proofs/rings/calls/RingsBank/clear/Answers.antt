use Rattle.std.proofs.Common.{rules}
use Rattle.belts.specs.Belts.{clearing}
use Rattle.simulate.proofs.Alterations.{one_altered}
use Rattle.simulate.proofs.rings.calls.RingsBank.clear.Goals as goal

pub returns-then-i-len : goal.returns-then-i-len
returns-then-i-len c = one_altered clearing c.args.self.now.rings.items c.args.i _ c.index_mut.result.now c.clear.new.self (search rules) c.index_mut.ensures.value c.clear.ensures
