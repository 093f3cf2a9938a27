-- What a belt (a bounded FIFO queue) means: a list of words, oldest first, with its places and its width. Assumes nothing.
use Rattle.std.specs.Prelude.{ℕ, ◌+◌, ◌%◌, ◌^◌, min, max, Bool, cond, List, [], ◌∷◌, ◌++◌, map, length, Some, None, Option, nat_lt}

-- what is known of a belt: how many words it has place for, how many bits a word has, and its words, oldest first
pub record Model : Type 0 where
  pub places : ℕ
  pub width : ℕ
  pub words : List ℕ

-- the same belt with other words
abbrev pub holding : Model → List ℕ → Model
holding m ws = record { places = m.places; width = m.width; words = ws }

-- the low `width` bits of a word
abbrev pub cut : ℕ → ℕ → ℕ
cut width w = w % 2 ^ width

-- a list's first word, absent exactly when the list is empty
abbrev pub first : List ℕ → Option ℕ
first [] = None
first (w ∷ ws) = Some w

-- a list without its first word
abbrev pub rest : List ℕ → List ℕ
rest [] = []
rest (w ∷ ws) = ws

-- the count is the length of the list, or 65,535 where that is longer
abbrev pub counted : Model → ℕ
counted m = min (length m.words) 65535

-- there is room exactly when the count is below the places
abbrev pub roomy : Model → Bool
roomy m = nat_lt (counted m) m.places

-- the head is the oldest word
abbrev pub head_of : Model → Option ℕ
head_of m = first m.words

-- the word, cut to the width, behind all others
abbrev pub joining : ℕ → Model → Model
joining w m = holding m (m.words ++ (cut m.width w ∷ []))

-- putting: with room the word joins, without room the words stay
abbrev pub putting : ℕ → Model → Model
putting w m = holding m (cond (roomy m) (joining w m).words m.words)

-- taking removes the head
abbrev pub taking : Model → Model
taking m = holding m (rest m.words)

-- clearing empties the list
abbrev pub clearing : Model → Model
clearing m = holding m []

-- a making figure outside its range counts as the nearer end
abbrev pub nearer : ℕ → ℕ → ℕ → ℕ
nearer low high n = max low (min high n)

-- a new ring or packed row is empty, has 1 to 16 places and a width of 0 to 4 bits
abbrev pub made : ℕ → ℕ → Model
made places width = record { places = nearer 1 16 places; width = nearer 0 4 width; words = [] }

-- a series: the front belt's words, then the rear's, each cut to the smaller width
abbrev pub in_series : Model → Model → Model
in_series front rear = record { places = min (front.places + rear.places) 65535; width = min front.width rear.width; words = map (cut (min front.width rear.width)) (front.words ++ rear.words) }
