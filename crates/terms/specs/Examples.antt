-- Small forms, worked out by hand.
use Rattle.std.specs.Prelude.{◌≡◌, ℕ, ◌+◌, ◌^◌, List, [], ◌∷◌, map, pos, negsuc}
use Rattle.terms.specs.Forms.{Form, one_form, not_form, and_form, or_form, xor_form}

-- the form of a free wire
abbrev pub wire : ℕ → Form
wire n = (2 ^ n, pos 1) ∷ []

abbrev x : Form
x = wire 3

abbrev y : Form
y = wire 127

-- each form beside the terms that it has
abbrev pub examples : List (Form × Form)
examples =
    (and_form x x, x)
    ∷ (xor_form x x, [])
    ∷ (not_form x, (0, pos 1) ∷ (2 ^ 3, negsuc 0) ∷ [])
    ∷ (or_form x y, (2 ^ 3, pos 1) ∷ (2 ^ 127, pos 1) ∷ (2 ^ 3 + 2 ^ 127, negsuc 0) ∷ [])
    ∷ (xor_form x y, (2 ^ 3, pos 1) ∷ (2 ^ 127, pos 1) ∷ (2 ^ 3 + 2 ^ 127, negsuc 1) ∷ [])
    ∷ (and_form x y, (2 ^ 3 + 2 ^ 127, pos 1) ∷ [])
    ∷ (not_form (and_form (not_form x) (not_form y)), or_form x y)
    ∷ (and_form x (not_form x), [])
    ∷ (or_form x (not_form x), one_form)
    ∷ (not_form (not_form x), x)
    ∷ []

abbrev pub Worked : Type 0
Worked = map (λ e. e.0) examples ≡ map (λ e. e.1) examples
