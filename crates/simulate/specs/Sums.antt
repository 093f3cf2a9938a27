-- What a balance comes to over counts. Assumes nothing.
use Rattle.std.specs.Prelude.{ℕ, List, map, length, ℤ, pos, slice_index, unwrap_or}
use Rattle.std.specs.Int.{int_rem_euclid}
use Rattle.std.specs.List.{range_with_len}
use Rattle.flows.specs.Completeness.{comes_to, weighting}
use Rattle.line.specs.Lines.{State, read}
use Rattle.simulate.specs.declared.balance.Balance.{Balance}
use Rattle.simulate.specs.declared.balance.Kind.{Kind}
use Rattle.simulate.specs.declared.balance.Kind.TheVariants.{Whole, Parity}

-- how many words each of the first n belts holds, 0 where the line tells no count
abbrev pub counts_of : State → ℕ → List ℕ
counts_of s n = map (λ b. unwrap_or (read s b) 0) (range_with_len 0 n)

-- what weights come to over counts: the sum, over belts, of weight times count
abbrev pub over_counts : List ℤ → List ℕ → ℤ
over_counts weights counts = comes_to (length weights) (weighting weights) (λ b. pos (slice_index counts b))

-- what is shown of it: of a whole balance the sum itself, of a parity balance its remainder by 2
abbrev pub shown_number : Kind → ℤ → ℤ
shown_number Whole x = x
shown_number Parity x = int_rem_euclid x (pos 2)

-- what a balance comes to over counts
abbrev pub sum_of : Balance → List ℕ → ℤ
sum_of b counts = shown_number b.kind (over_counts b.weights.items counts)
