use Rattle.std.proofs.Common.{arith}
use Rattle.derivation.proofs.Found.{too_many}
use Rattle.derivation.proofs.columns.Columns.add_all.Goals as goal

pub returns-then-self-gt-MOST_COLUMNS : goal.returns-then-self-gt-MOST_COLUMNS
returns-then-self-gt-MOST_COLUMNS c = (c.into.ensures, too_many _ _ _ c.loop-t.self c.add.new.self _ (omega arith) c.loop-t.invariant c.add.ensures (omega arith))
