-- What a page stands for.
use Rattle.std.specs.Prelude.{ℕ, zero, suc, List, [], ◌∷◌, ◌+◌, ◌≤◌, length, take}
use Rattle.printing.specs.declared.page.Page.{Page}

-- the text on a page
abbrev pub text_on : Page → List ℕ
text_on p = take p.len p.bytes

-- a text finds room behind that
abbrev pub RoomFor : Page → List ℕ → Type 0
RoomFor p text = length (text_on p) + length text ≤ 9504

-- what stands before word i of a line
abbrev pub gap : ℕ → List ℕ
gap zero = []
gap (suc i) = 32 ∷ []
