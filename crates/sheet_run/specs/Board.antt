-- The board of three belts: what its text gives, and its wires and events in two rows of free wire values.
use Rattle.std.specs.Prelude.{◌≡◌, ℕ, Bool, true, false, List, [], ◌∷◌, ◌++◌, map, Ok, codes}
use Rattle.std.specs.List.{range_with_len, flat_map}
use Rattle.sheet.specs.declared.node.Node.{Node}
use Rattle.sheet.specs.declared.node.Node.TheVariants.{Free, Belt, Gate}
use Rattle.sheet.specs.declared.node.Source.TheVariants.{Sensor, Room, Item}
use Rattle.sheet.specs.declared.node.Gate.TheVariants.{And}
use Rattle.sheet.specs.Loading.{loaded}
use Rattle.sheet.specs.Wires.{bit, settled, row_enters, row_leaves}

abbrev pub text : List ℕ
text =
    flat_map (λ l. l ++ 10 ∷ [])
    (codes "kind left right" ∷ codes "i - -" ∷ codes "i - -" ∷ codes "r 0 -" ∷ codes "r 1 -" ∷ codes "r 2 -" ∷ codes "h 0 -" ∷ codes "h 1 -" ∷ codes "h 2 -"
    ∷ codes "a 0 4" ∷ codes "a 0 2" ∷ codes "a 1 7" ∷ codes "a 1 6" ∷ codes "b 8 3" ∷ codes "b 5 10" ∷ codes "b 9 11" ∷ [])

abbrev pub nodes : List Node
nodes =
    Free Sensor ∷ Free Sensor ∷ Free (Room 0) ∷ Free (Room 1) ∷ Free (Room 2) ∷ Free (Item 0) ∷ Free (Item 1) ∷ Free (Item 2)
    ∷ Gate (And 0 4) ∷ Gate (And 0 2) ∷ Gate (And 1 7) ∷ Gate (And 1 6) ∷ Belt 8 3 ∷ Belt 5 10 ∷ Belt 9 11 ∷ []

-- entered and left, belt by belt
abbrev pub events : List Bool → List ℕ
events row = flat_map (λ b. bit (row_enters nodes row b) ∷ bit (row_leaves nodes row b) ∷ []) (range_with_len 0 3)

-- both sensors high, all belts with room and none with an item; then the first and the third belt with an item
abbrev pub first : List Bool
first = true ∷ true ∷ true ∷ true ∷ true ∷ false ∷ false ∷ false ∷ []

abbrev pub second : List Bool
second = true ∷ true ∷ true ∷ true ∷ true ∷ true ∷ false ∷ true ∷ []

pub record Board : Type 0 where
  pub loads : loaded text ≡ Ok nodes
  pub settles : map bit (settled nodes first) ≡ 1 ∷ 1 ∷ 1 ∷ 1 ∷ 1 ∷ 0 ∷ 0 ∷ 0 ∷ 1 ∷ 1 ∷ 0 ∷ 0 ∷ 0 ∷ 0 ∷ 0 ∷ []
  pub fills : events first ≡ 1 ∷ 0 ∷ 0 ∷ 0 ∷ 1 ∷ 0 ∷ []
  pub moves : events second ≡ 1 ∷ 1 ∷ 1 ∷ 0 ∷ 1 ∷ 0 ∷ []
