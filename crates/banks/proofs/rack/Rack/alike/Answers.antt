use Rattle.banks.proofs.RackRows.{rows_alike}
use Rattle.banks.proofs.rack.Rack.alike.Goals as goal

pub returns : goal.returns
returns c = rows_alike c.args.size c.args.row c.requires.1
