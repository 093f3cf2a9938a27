-- Forms (multilinear polynomials) as rising lists of terms (monomials) with nonzero coefficients, and their values. Assumes nothing.
use Rattle.std.specs.Prelude.{ℕ, suc, ◌+◌, ◌*◌, ◌≤◌, Bool, true, false, cond, ◌&&◌, List, [], ◌∷◌, ℤ, pos, negsuc, ◌+ℤ◌, ◌-ℤ◌, ◌*ℤ◌, ◌==◌, ◌≢◌, bit_or, nat_lt, unsigned_abs}
-- a wire's value as a number
pub use mir.Val.{bool_byte as bit}

-- sets of free wires, as numbers, with their coefficients
abbrev pub Form : Type 0
Form = List (ℕ × ℤ)

-- a row of free wire values as a set: that of the high wires
abbrev pub row_of : List Bool → ℕ
row_of [] = 0
row_of (b ∷ bs) = bit b + 2 * row_of bs

-- the wires of the set s are all high in the row r; those of the empty set always are
abbrev pub high : ℕ → ℕ → Bool
high s r = bit_or s r == r

-- the sum of the coefficients of those terms whose wires are all high
abbrev pub value : Form → ℕ → ℤ
value [] r = pos 0
value (t ∷ p) r = cond (high t.0 r) t.1 (pos 0) +ℤ value p r

-- the sets rise from lo on, and the coefficients are nonzero
abbrev pub Rising : ℕ → Form → Type 0
Rising lo [] = Unit {0}
Rising lo (t ∷ p) = (lo ≤ t.0) × (t.1 ≢ pos 0) × Rising (suc t.0) p

-- a term in front, dropped where its coefficient is zero
abbrev pub keep : ℕ → ℤ → Form → Form
keep s c p = cond (unsigned_abs c == 0) p ((s, c) ∷ p)

-- a term added to a rising form: at its place, or onto its equal
abbrev pub insert : ℕ → ℤ → Form → Form
insert s c [] = keep s c []
insert s c (t ∷ p) = cond (nat_lt s t.0) (keep s c (t ∷ p)) (cond (nat_lt t.0 s) (t ∷ insert s c p) (keep s (c +ℤ t.1) p))

-- terms added one after another, in any order
abbrev pub add_all : Form → Form → Form
add_all p [] = p
add_all p (t ∷ q) = add_all (insert t.0 t.1 p) q

-- k times a form's terms, each joined with the set s
abbrev pub scaled : ℕ → ℤ → Form → Form
scaled s k [] = []
scaled s k (t ∷ q) = (bit_or s t.0, k *ℤ t.1) ∷ scaled s k q

-- p and k times q
abbrev pub add_scaled : ℤ → Form → Form → Form
add_scaled k p q = add_all p (scaled 0 k q)

-- p and k times the product of a and b: sets joined, coefficients multiplied
abbrev pub add_product : ℤ → Form → Form → Form → Form
add_product k p [] b = p
add_product k p (t ∷ a) b = add_product k (add_all p (scaled t.0 (k *ℤ t.1) b)) a b

-- constant 1 is {}; NOT is {} less the form; AND the product; OR the sum less the product; XOR the sum less twice the product
abbrev pub one_form : Form
one_form = (0, pos 1) ∷ []

abbrev pub not_form : Form → Form
not_form p = add_scaled (negsuc 0) one_form p

abbrev pub and_form : Form → Form → Form
and_form p q = add_product (pos 1) [] p q

abbrev pub or_form : Form → Form → Form
or_form p q = add_product (negsuc 0) (add_all p q) p q

abbrev pub xor_form : Form → Form → Form
xor_form p q = add_product (negsuc 1) (add_all p q) p q

-- the two forms have the same terms with the same coefficients
abbrev pub same : Form → Form → Bool
same [] [] = true
same [] (u ∷ q) = false
same (t ∷ p) [] = false
same (t ∷ p) (u ∷ q) = t.0 == u.0 && (unsigned_abs (t.1 -ℤ u.1) == 0 && same p q)

-- the sizes of the coefficients together (the 1-norm): no value of the form, and no coefficient, is larger
abbrev pub norm : Form → ℕ
norm [] = 0
norm (t ∷ p) = unsigned_abs t.1 + norm p
