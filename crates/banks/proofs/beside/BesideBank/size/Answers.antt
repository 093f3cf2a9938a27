use Rattle.std.proofs.Common.{arith, length-append, length-take}
use Rattle.banks.proofs.beside.BesideBank.size.Goals as goal

pub returns : goal.returns
returns g c = simp (length-take, length-append) (omega arith)
