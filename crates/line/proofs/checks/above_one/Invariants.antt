use Rattle.std.proofs.Common.{◌≡◌, nat_lt, drop}
use Rattle.std.specs.List.{list_any}
use Rattle.line.proofs.checks.above_one.Given as goal

abbrev pub invariant-loop-byte : goal.invariant-loop-byte
invariant-loop-byte l = list_any (nat_lt 1) (drop l.byte-index l.sensors) ≡ list_any (nat_lt 1) l.sensors
