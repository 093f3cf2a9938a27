use Rattle.kinds.specs.Wholes.{wholes_lawful}
use Rattle.kinds.specs.Parities.{parities_lawful}
use Rattle.kinds.proofs.kinds_are_lawful.Goals as goal

pub returns : goal.returns
returns c = record { wholes = wholes_lawful; parities = parities_lawful }
