-- The printed list and the refusal line: what the printing calls answer and write.
use Rattle.std.specs.Prelude.{ℕ, zero, suc, ◌*◌, Bool, ◌||◌, ltb, List, [], ◌∷◌, ◌++◌, map, length, take, drop, ℤ, nat_abs, Result, Ok}
use Rattle.std.specs.List.{flat_map, list_any, range_with_len}
use Rattle.std.specs.Fmt.{decimal, signed_decimal}
use Rattle.printing.specs.Words.{Fault, UnfitList, ShortText, Outcome, words, and_then, refuse_if, written}

-- one blank between neighbours, and a line feed at the end
abbrev pub line_of : List (List ℕ) → List ℕ
line_of [] = 10 ∷ []
line_of (w ∷ []) = w ++ 10 ∷ []
line_of (w ∷ v ∷ ws) = w ++ 32 ∷ line_of (v ∷ ws)

-- the first k rows of n numbers each
abbrev pub rows_of : ℕ → ℕ → List ℤ → List (List ℤ)
rows_of n zero weights = []
rows_of n (suc k) weights = take n weights ∷ rows_of n k (drop n weights)

-- a belt's name is B and its number
abbrev pub name_of : ℕ → List ℕ
name_of b = 66 ∷ decimal b

-- the line of one balance
abbrev pub row_text : List ℤ → List ℕ
row_text ws = line_of (map signed_decimal ws)

-- the line of the belts' names; then a line of weights for each balance
abbrev pub list_text : ℕ → ℕ → List ℤ → List ℕ
list_text belts balances weights = line_of (map name_of (range_with_len 0 belts)) ++ flat_map row_text (rows_of belts balances weights)

-- the line of a refusal: its words, and a line feed
abbrev pub refusal_text : Fault → List ℕ
refusal_text f = words f ++ 10 ∷ []

-- a weight passes 1,000,000 either way
abbrev pub is_large : ℤ → Bool
is_large w = ltb 1000000 (nat_abs w)

-- over 32 belts or balances, too few weights, or a weight that is used and too large
abbrev pub list_unfit : ℕ → ℕ → List ℤ → Bool
list_unfit belts balances weights =
    ltb 32 belts || (ltb 32 balances || (ltb (length weights) (belts * balances) || list_any is_large (take (belts * balances) weights)))

-- bytes into text memory, and how many; refused if the memory is shorter
abbrev pub in_text : Result (List ℕ) Fault → List ℕ → Outcome ℕ ℕ
in_text r text = written length (λ bytes. bytes) (and_then r (λ bytes. refuse_if (ltb (length text) (length bytes)) ShortText 0 (Ok bytes))) text

-- a list into text memory: refused if it is unfit, then if the memory is too short
abbrev pub print_list : ℕ → ℕ → List ℤ → List ℕ → Outcome ℕ ℕ
print_list belts balances weights text = in_text (refuse_if (list_unfit belts balances weights) UnfitList 0 (Ok (list_text belts balances weights))) text

-- a refusal's line into text memory
abbrev pub print_refusal : Fault → List ℕ → Outcome ℕ ℕ
print_refusal f text = in_text (Ok (refusal_text f)) text
