-- What derived balances are, in words of wire rows: none is false, and none is missing. Assumes nothing.
use Rattle.std.specs.Prelude.{◌≡◌, ℕ, zero, suc, ◌%◌, ◌<◌, ◌≤◌, Bool, ◌↔◌, List, [], ◌∷◌, length, ℤ, pos, ◌+ℤ◌, ◌-ℤ◌, ◌*ℤ◌, Ok, slice_index_or, unsigned_abs}
use Rattle.std.specs.List.{AllByRecursion}
use Rattle.sheet.specs.declared.node.Node.{Node}
use Rattle.sheet.specs.Wires.{bit, row_enters, row_leaves}
use Rattle.terms.specs.Forms.{Form, value, row_of}
use Rattle.kinds.specs.Kinds.{Kind, wholes}
use Rattle.kinds.specs.Completeness.{LeadsAbove}
use Rattle.flows.specs.Derivation.{balances_of}

-- what counts as zero: zero among whole numbers, an even number among parities
abbrev pub Zero : ℤ → Type 0
Zero x = x ≡ pos 0

abbrev pub Even : ℤ → Type 0
Even x = unsigned_abs x % 2 ≡ 0

-- the sum of f over the first n numbers, from 0 on
abbrev pub total : ℕ → (ℕ → ℤ) → ℤ
total zero f = pos 0
total (suc n) f = f zero +ℤ total n (λ i. f (suc i))

-- a weighting gives each of n quantities a whole number; over an amount of each it comes to the sum of weight times amount
abbrev pub comes_to : ℕ → (ℕ → ℤ) → (ℕ → ℤ) → ℤ
comes_to n w amount = total n (λ b. w b *ℤ amount b)

-- a sum over a list of rows, each of which gives every free wire any bit
abbrev pub over_rows : (List Bool → ℤ) → List (List Bool) → ℤ
over_rows f [] = pos 0
over_rows f (row ∷ rows) = f row +ℤ over_rows f rows

-- what belt b gains in a row: its entering event less its leaving event, with its room and item wires as room and item
abbrev pub gain : List Node → List Bool → ℕ → ℤ
gain ns row b = pos (bit (row_enters ns row b)) -ℤ pos (bit (row_leaves ns row b))

-- the weights of a list, and zero past its end
abbrev pub weighting : List ℤ → ℕ → ℤ
weighting ws b = slice_index_or ws b (pos 0)

-- over every list of rows the weighted gains of n quantities come to what counts as zero
abbrev pub StaysZero : (ℤ → Type 0) → ℕ → (List Bool → ℕ → ℤ) → (ℕ → ℤ) → Type 0
StaysZero Z n gains w = (rows : List (List Bool)) → Z (over_rows (λ row. comes_to n w (gains row)) rows)

-- a nonzero multiple of the weighting w is a sum of whole multiples of the balances, at each of n quantities
pub record Made (Z : ℤ → Type 0) (n : ℕ) (balances : List (List ℤ)) (w : ℕ → ℤ) : Type 0 where
  pub factor : ℤ
  pub nonzero : Z factor → ⊥
  pub multiples : ℕ → ℤ
  pub sum : (b : ℕ) → b < n → Z (factor *ℤ w b -ℤ comes_to (length balances) multiples (λ j. weighting (slice_index_or balances j []) b))

-- balances of n quantities with these gains: no more than there are quantities, a weight of at most 1,000,000 either way for
-- each; none is false, since each stays zero; and none is missing: a weighting stays zero exactly when it is made from them
pub record Complete (Z : ℤ → Type 0) (n : ℕ) (gains : List Bool → ℕ → ℤ) (balances : List (List ℤ)) : Type 0 where
  pub few : length balances ≤ n
  pub sized : AllByRecursion (λ u. length u ≡ n) balances
  pub small : AllByRecursion (AllByRecursion (λ x. unsigned_abs x ≤ 1000000)) balances
  pub zeros : AllByRecursion (λ u. StaysZero Z n gains (weighting u)) balances
  pub exactly : (w : ℕ → ℤ) → StaysZero Z n gains w ↔ Made Z n balances w

-- the flows count the gains: in every row each comes to the gain of its quantity
abbrev pub Counting : List Form → (List Bool → ℕ → ℤ) → Type 0
Counting flows gains = (b : ℕ) → b < length flows → (row : List Bool) → value (slice_index_or flows b []) (row_of row) ≡ gains row b

-- of any quantities, counted by their flows, the balances are complete
abbrev pub BalancesAreComplete : Kind → (ℤ → Type 0) → Type 0
BalancesAreComplete K Z =
    (flows : List Form) (gains : List Bool → ℕ → ℤ) → Counting flows gains
    → (balances : List (List ℤ)) → balances_of K flows ≡ Ok balances → Complete Z (length flows) gains balances

-- the first nonzero weight of each balance, as it is written, is above zero
abbrev pub AllLeadAbove : List (List ℤ) → Type 0
AllLeadAbove = AllByRecursion (LeadsAbove wholes)
