-- Worked examples, as one list with one statement over it: small forms; the board of three belts, from its text to what is
-- printed of it, and its parity balance; and its first ticks.
use Rattle.std.specs.Prelude.{◌≡◌, ℕ, List, [], ◌∷◌, ◌++◌, map, length, replicate, ℤ, pos, negsuc, Some, Ok, codes, Option, Result}
use Rattle.std.specs.List.{fold, range_with_len, flat_map, AllByRecursion}
use Rattle.sheet.specs.declared.fault.Fault.{Fault}
use Rattle.sheet.specs.Loading.{loaded}
use Rattle.sheet.specs.Refusals.{and_then}
use Rattle.belts.specs.Belts.{Model, made}
use Rattle.terms.specs.Forms.{Form, not_form, and_form, or_form, xor_form}
use Rattle.terms.specs.Examples.{wire}
use Rattle.kinds.specs.Kinds.{parities}
use Rattle.flows.specs.Derivation.{derived}
use Rattle.listing.specs.Listing.{list_of}
use Rattle.line.specs.Lines.{State, new_line, mount, tick, read}

-- what a tick answers and writes
abbrev pub Told : Type 0
Told = Result (ℕ × ℕ) Fault × List ℕ

-- an example: a form and its terms; a sheet's text and its list of balances, as printed; a sheet's text and its parity balances; a
-- sheet's text, a bank and the sensor bytes of some ticks, with what each tick tells and the counts after them
pub data Example : Type 0 where
  form : Form → Form → Example
  printed : List ℕ → List ℕ → Example
  parity : List ℕ → List (List ℤ) → Example
  ticked : List ℕ → List Model → List (List ℕ) → List Told → List (Option ℕ) → Example

-- what each of some ticks tells, with event memory of six bytes
abbrev pub ticks : State → List (List ℕ) → List Told
ticks s [] = []
ticks s (x ∷ xs) = ((tick s x (replicate 6 0)).answer, (tick s x (replicate 6 0)).memory) ∷ ticks (tick s x (replicate 6 0)).after xs

-- the line after some ticks
abbrev pub after_ticks : State → List (List ℕ) → State
after_ticks s xs = fold (λ s x. (tick s x (replicate 6 0)).after) s xs

-- a new line over the bank, with the sheet of a text mounted on it
abbrev pub mounted_on : List Model → List ℕ → Result State Fault
mounted_on bank text = and_then (loaded text) (λ ns. and_then (mount (new_line bank) ns).answer (λ _. Ok (mount (new_line bank) ns).after))

-- an example holds: what it works out is what it says
abbrev pub Holds : Example → Type 0
Holds (form p q) = p ≡ q
Holds (printed text bytes) = list_of text ≡ Ok bytes
Holds (parity text balances) = and_then (loaded text) (λ ns. derived parities ns) ≡ Ok balances
Holds (ticked text bank sensors told counts) =
    and_then {B = List Told × List (Option ℕ)} (mounted_on bank text) (λ s. Ok (ticks s sensors, map (read (after_ticks s sensors)) (range_with_len 0 (length bank)))) ≡ Ok (told, counts)

-- lines of text, each with its line feed
abbrev pub in_lines : List (List ℕ) → List ℕ
in_lines ls = flat_map (λ l. l ++ 10 ∷ []) ls

-- the board of three belts
abbrev pub board : List ℕ
board =
    in_lines
    (codes "kind left right" ∷ codes "i - -" ∷ codes "i - -" ∷ codes "r 0 -" ∷ codes "r 1 -" ∷ codes "r 2 -" ∷ codes "h 0 -" ∷ codes "h 1 -" ∷ codes "h 2 -"
    ∷ codes "a 0 4" ∷ codes "a 0 2" ∷ codes "a 1 7" ∷ codes "a 1 6" ∷ codes "b 8 3" ∷ codes "b 5 10" ∷ codes "b 9 11" ∷ [])

abbrev x : Form
x = wire 0

abbrev y : Form
y = wire 1

-- three empty rings alike, both sensors high, and what the first tick tells
abbrev pub rings : ℕ → List Model
rings places = replicate 3 (made places 0)

abbrev both : List ℕ
both = 1 ∷ 1 ∷ []

abbrev fills : Told
fills = (Ok (2, 0), 1 ∷ 0 ∷ 0 ∷ 0 ∷ 1 ∷ 0 ∷ [])

-- the sets {}, {x}, {y} and {x, y} are the numbers 0, 1, 2 and 3
abbrev pub examples : List Example
examples =
    form (and_form x x) ((1, pos 1) ∷ [])
    ∷ form (xor_form x x) []
    ∷ form (not_form x) ((0, pos 1) ∷ (1, negsuc 0) ∷ [])
    ∷ form (or_form x y) ((1, pos 1) ∷ (2, pos 1) ∷ (3, negsuc 0) ∷ [])
    ∷ form (xor_form x y) ((1, pos 1) ∷ (2, pos 1) ∷ (3, negsuc 1) ∷ [])
    ∷ printed board (in_lines (codes "B0 B1 B2" ∷ codes "1 1 -1" ∷ []))
    ∷ parity board ((pos 1 ∷ pos 1 ∷ pos 1 ∷ []) ∷ [])
    ∷ ticked board (rings 16) (both ∷ []) (fills ∷ []) (Some 1 ∷ Some 0 ∷ Some 1 ∷ [])
    ∷ ticked board (rings 16) (both ∷ both ∷ []) (fills ∷ (Ok (3, 1), 1 ∷ 1 ∷ 1 ∷ 0 ∷ 1 ∷ 0 ∷ []) ∷ []) (Some 1 ∷ Some 1 ∷ Some 2 ∷ [])
    ∷ ticked board (rings 1) (both ∷ both ∷ []) (fills ∷ (Ok (1, 1), 0 ∷ 1 ∷ 1 ∷ 0 ∷ 0 ∷ 0 ∷ []) ∷ []) (Some 0 ∷ Some 1 ∷ Some 1 ∷ [])
    ∷ []

-- every example holds
abbrev pub AllHold : Type 0
AllHold = AllByRecursion Holds examples
