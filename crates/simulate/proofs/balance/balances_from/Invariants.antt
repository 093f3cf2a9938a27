use Rattle.std.proofs.Common.{◌≡◌, ◌*◌, ◌≤◌, ◌++◌, map, length}
use Rattle.std.specs.Iterator.Adapters.{take_source, take_count}
use Rattle.std.specs.Slice.Iter.{chunks_exact_rest, chunks_exact_size}
use Rattle.elimination.specs.Memory.{rows_of}
use Rattle.simulate.specs.Balances.{balance_in, new_balance}
use Rattle.simulate.proofs.balance.balances_from.Given as goal

-- the balances so far, and those of what is left, are all
abbrev pub invariant-loop-row : goal.invariant-loop-row
invariant-loop-row l =
    let left = take_count l.row-iterator in
    let rest = chunks_exact_rest (take_source l.row-iterator) in
    (map balance_in l.balances.items ++ map (new_balance l.kind) (rows_of left l.belts rest) ≡ map (new_balance l.kind) (rows_of l.count l.belts l.weights))
    × (chunks_exact_size (take_source l.row-iterator) ≡ l.belts) × (left * l.belts ≤ length rest)
