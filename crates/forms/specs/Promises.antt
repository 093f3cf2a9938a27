-- What forms mean, in words of wires and rows.
use Rattle.std.specs.Prelude.{◌≡◌, ℕ, Bool, false, List, pos, slice_index_or}
use Rattle.sheet.specs.declared.node.Node.{Node}
use Rattle.sheet.specs.Wires.{bit, settled}
use Rattle.terms.specs.Forms.{Form, Rising, value, row_of}

-- a form counts wire w: its terms rise, its coefficients are nonzero, and in every row of free wire values it comes to 1 where the wire is high and else to 0
pub record Counts (ns : List Node) (w : ℕ) (p : Form) : Type 0 where
  pub rising : Rising 0 p
  pub value_is : (row : List Bool) → value p (row_of row) ≡ pos (bit (slice_index_or (settled ns row) w false))

-- two wires agree in every row of free wire values
abbrev pub Agree : List Node → ℕ → ℕ → Type 0
Agree ns v w = (row : List Bool) → slice_index_or (settled ns row) v false ≡ slice_index_or (settled ns row) w false
