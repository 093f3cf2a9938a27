use Rattle.std.proofs.Common.{sym}
use Rattle.belts.proofs.Nibbles.{row_counted}
use Rattle.belts.proofs.row.calls.PackedRowStore.held.Goals as goal

pub returns : goal.returns
returns c = sym (row_counted c.args.self.now)
