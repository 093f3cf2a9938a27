-- How a printed list is read back: lines and words as in a sheet, names and numbers by their bytes alone.
use Rattle.std.specs.Prelude.{ℕ, cond, eqb, List, [], ◌∷◌, map, ℤ, pos, neg_ℤ, Option, Some, None}
use Rattle.std.specs.List.{range_with_len}
use Rattle.std.specs.Option.{option_map}
use Rattle.printing.specs.Printing.{rows_of}
use Rattle.sheet.specs.Text.{lines_of, fields_of, digits}

-- the words of a line stand between blanks; an empty line has none
abbrev pub words_of : List ℕ → List (List ℕ)
words_of [] = []
words_of (b ∷ bs) = fields_of (b ∷ bs)

-- the number that some decimal digits write
abbrev pub natural_in : List ℕ → Option ℕ
natural_in [] = None
natural_in (b ∷ bs) = digits 0 (b ∷ bs)

-- the same with a dash before it, if it is below zero
abbrev pub whole_in : List ℕ → Option ℤ
whole_in [] = None
whole_in (b ∷ bs) = cond (eqb b 45) (option_map (λ n. neg_ℤ (pos n)) (natural_in bs)) (option_map pos (natural_in (b ∷ bs)))

-- the number of the belt that a name tells
abbrev pub belt_in : List ℕ → Option ℕ
belt_in [] = None
belt_in (b ∷ bs) = cond (eqb b 66) (natural_in bs) None

-- the belts that the first line names, and the numbers on the lines after it
pub record Reading : Type 0 where
  pub names : List (Option ℕ)
  pub rows : List (List (Option ℤ))

abbrev pub of_lines : List (List ℕ) → Reading
of_lines [] = record { names = []; rows = [] }
of_lines (line ∷ lines) = record { names = map belt_in (words_of line); rows = map (λ l. map whole_in (words_of l)) lines }

-- what a text tells
abbrev pub reading : List ℕ → Reading
reading text = of_lines (lines_of text)

-- what the text of a list tells: each belt in order, and the weights of each balance
abbrev pub listed : ℕ → ℕ → List ℤ → Reading
listed belts balances weights = record { names = map Some (range_with_len 0 belts); rows = map (map Some) (rows_of belts balances weights) }
