-- What the inner functions answer about one belt. Assumes nothing.
use Rattle.flows.specs.Flows as F
use Rattle.derivation.specs.declared.ports.Ports.{Ports}

-- the wires of a belt, as the definitions name them
abbrev pub ports_in : Ports → F.Ports
ports_in p = record { offer = p.offer; room = p.room; take = p.take; item = p.item }
