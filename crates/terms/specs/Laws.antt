-- What is promised of sets and forms. Assumes nothing.
use Rattle.std.specs.Prelude.{◌≡◌, ℕ, ◌/◌, ◌%◌, ◌<◌, Bool, true, false, not, List, ℤ, ◌+ℤ◌, ◌*ℤ◌, slice_index, slice_index_or}
use Rattle.terms.specs.Sets.{number_of, holds}
use Rattle.terms.specs.Forms.{Form, row_of, high, value, Rising, insert, add_all, add_scaled, add_product, same}

-- exclusive or
abbrev pub differ : Bool → Bool → Bool
differ true b = not b
differ false b = b

-- wire n is bit n mod 8, lowest first, of byte n div 8
abbrev pub WiresByBytes : Type 0
WiresByBytes = (bs : List ℕ) → ((k : ℕ) → slice_index bs k < 256) → (n : ℕ) → holds (number_of bs) n ≡ holds (slice_index bs (n / 8)) (n % 8)

-- wire n of a row is bit n of the row's number
abbrev pub RowsByWires : Type 0
RowsByWires = (row : List Bool) (n : ℕ) → holds (row_of row) n ≡ slice_index_or row n false

-- a set is high in a row exactly when each of its wires is
abbrev pub HighMeansAll : Type 0
HighMeansAll = (s r : ℕ) → (high s r ≡ true → (n : ℕ) → holds s n ≡ true → holds r n ≡ true) × (((n : ℕ) → holds s n ≡ true → holds r n ≡ true) → high s r ≡ true)

-- in every row, sums and products of forms come to the sums and products of what the forms come to
pub record Values : Type 0 where
  pub sums : (p q : Form) (r : ℕ) → value (add_all p q) r ≡ value p r +ℤ value q r
  pub multiples : (k : ℤ) (p q : Form) (r : ℕ) → value (add_scaled k p q) r ≡ value p r +ℤ k *ℤ value q r
  pub products : (k : ℤ) (p a b : Form) (r : ℕ) → value (add_product k p a b) r ≡ value p r +ℤ k *ℤ value a r *ℤ value b r

-- what is added to a rising form leaves it rising
pub record Rises : Type 0 where
  pub terms : (s : ℕ) (c : ℤ) (p : Form) → Rising 0 p → Rising 0 (insert s c p)
  pub sums : (p q : Form) → Rising 0 p → Rising 0 (add_all p q)
  pub products : (k : ℤ) (p a b : Form) → Rising 0 p → Rising 0 (add_product k p a b)

-- the test for the same form finds equal forms, and no others
abbrev pub SameMeansEqual : Type 0
SameMeansEqual = (p q : Form) → (same p q ≡ true → p ≡ q) × (p ≡ q → same p q ≡ true)

-- the two forms come to the same in every row of free wire values
abbrev pub Alike : Form → Form → Type 0
Alike p q = (row : List Bool) → value p (row_of row) ≡ value q (row_of row)

-- rising forms are equal exactly when they are alike (they are canonical)
abbrev pub Canonical : Type 0
Canonical = (p q : Form) → Rising 0 p → Rising 0 q → (p ≡ q → Alike p q) × (Alike p q → p ≡ q)
