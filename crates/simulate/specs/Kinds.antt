-- In which numbers the balances of a kind are derived. Assumes nothing.
use Rattle.kinds.specs.Kinds as N
use Rattle.simulate.specs.declared.balance.Kind.{Kind}
use Rattle.simulate.specs.declared.balance.Kind.TheVariants.{Whole, Parity}

abbrev pub numbers_of : Kind → N.Kind
numbers_of Whole = N.wholes
numbers_of Parity = N.parities
