use Rattle.terms.proofs.Bytes.{number_written}
use Rattle.terms.proofs.sets.spelling.Goals as goal

pub returns : goal.returns
returns c = number_written c.args.number c.to_le_bytes.result c.ranges.number.fits c.to_le_bytes.ensures
