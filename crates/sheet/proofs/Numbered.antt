-- With which numbers loading may refuse.
use Rattle.std.proofs.Common.{◌≡◌, ℕ, not, List, [], ◌∷◌, ◌++◌, length, Ok, Err, refl, subst, arith}
use Rattle.sheet.specs.Words.{Node, Fault}
use Rattle.sheet.specs.declared.fault.Refusal.TheVariants.{UnfitText, WrongNamesLine, WrongValues, TooMany, GateOutOfOrder, UnknownName, UnfitBelt}
use Rattle.sheet.specs.declared.text.Order.{Order}
use Rattle.sheet.specs.Refusals.{IsOneOf, load_numbers}
use Rattle.sheet.specs.Loading.{size_fits, admitted, value_lines, checked, of_lines, text_fits, loaded}
use Rattle.sheet.specs.Rules.{order_fits, nameless, unfit}
use Rattle.sheet.specs.Text.{lines_of, value_line, order_of}
use Rattle.sheet.proofs.Numbers.{Within, then_within, if_within, at_within, or_within}

admitted_within : (before : List Node) (n : Node) → Within load_numbers (admitted before n)
admitted_within before n =
    if_within load_numbers (not (size_fits (before ++ n ∷ []))) TooMany (length before) _ (3, omega arith, refl)
    (if_within load_numbers (not (order_fits before n)) GateOutOfOrder (length before) _ (4, omega arith, refl) tt)

lines_within : (o : Order) (before : List Node) (lines : List (List ℕ)) → Within load_numbers (value_lines o before lines)
lines_within o before [] = tt
lines_within o before (line ∷ rest) =
    then_within load_numbers _ (λ more. value_lines o more rest)
    (then_within load_numbers _ (admitted before) (or_within load_numbers (value_line o line) WrongValues (length before) (2, omega arith, refl)) (admitted_within before))
    (λ more. lines_within o more rest)

checked_within : (ns : List Node) → Within load_numbers (checked ns)
checked_within ns =
    at_within load_numbers (nameless ns) UnknownName _ (5, omega arith, refl)
    (at_within load_numbers (unfit ns) UnfitBelt (Ok ns) (6, omega arith, refl) tt)

text_within : (lines : List (List ℕ)) → Within load_numbers (of_lines lines)
text_within [] = (0, omega arith, refl)
text_within (names ∷ values) =
    then_within load_numbers _ _ (or_within load_numbers (order_of names) WrongNamesLine 0 (1, omega arith, refl))
    (λ o. then_within load_numbers _ checked (lines_within o [] values) checked_within)

load_within : (text : List ℕ) → Within load_numbers (loaded text)
load_within text = if_within load_numbers (not (text_fits text)) UnfitText 0 (of_lines (lines_of text)) (0, omega arith, refl) (text_within (lines_of text))

-- the number of a refusal of loading
pub numbered : (text : List ℕ) (f : Fault) → loaded text ≡ Err f → IsOneOf load_numbers f
numbered text f e = subst (Within load_numbers) e (load_within text)
