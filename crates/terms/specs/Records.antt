-- Term records, the forms that they hold, and what the calls that merge forms in lent records leave. Assumes nothing.
use Rattle.std.specs.Prelude.{◌≡◌, ℕ, ◌+◌, ◌*◌, ◌-◌, ◌^◌, ◌<◌, ◌≤◌, Bool, true, false, ◌&&◌, List, ◌++◌, map, length, take, drop, replicate, ℤ, pos, Option, MatchOption, nat_le, nat_lt, unsigned_abs}
use Rattle.terms.specs.declared.term.Term.{Term}
use Rattle.terms.specs.Sets.{number_of, bytes_of}
use Rattle.terms.specs.Forms.{Form, value, Rising, bit, norm}

-- the form that records hold
abbrev pub entry_of : Term → ℕ × ℤ
entry_of t = (number_of t.set, t.coefficient)

abbrev pub form_in : List Term → Form
form_in ts = map entry_of ts

-- the record that holds a term
abbrev pub term_of : ℕ × ℤ → Term
term_of t = record { set = bytes_of 16 t.0; coefficient = t.1 }

-- the record that holds no term
abbrev pub blank_term : Term
blank_term = record { set = replicate 16 0; coefficient = pos 0 }

-- an operand is light: its coefficients come to less than 2^30 together
abbrev pub light : List Term → Bool
light ts = nat_lt (norm (form_in ts)) (2 ^ 30)

-- the first records can be added to: their coefficients come to less than 2^62 together
abbrev pub bearable : List Term → ℕ → Bool
bearable ts used = nat_le used (length ts) && nat_lt (norm (form_in (take used ts))) (2 ^ 62)

-- a term with the coefficient c can be added to the first records
abbrev pub term_fits : List Term → ℕ → ℤ → Bool
term_fits ts used c = bearable ts used && (nat_lt used (length ts) && nat_lt (unsigned_abs c) (2 ^ 62))

-- k times a form, k at most 2 either way, can be added to the first records
abbrev pub scaled_fits : List Term → ℕ → ℤ → List Term → Bool
scaled_fits ts used k form = bearable ts used && (nat_le (used + length form) (length ts) && (nat_le (unsigned_abs k) 2 && light form))

-- k times a product, k at most 2 either way, can be added to the first records
abbrev pub product_fits : List Term → ℕ → ℤ → List Term → List Term → Bool
product_fits ts used k one other =
    bearable ts used && (nat_le (used + length one * length other) (length ts) && (nat_le (unsigned_abs k) 2 && (light one && light other)))

-- a gate over two operands can be worked out, given how many records that wants
abbrev pub gate_fits : ℕ → List Term → List Term → List Term → Bool
gate_fits room ts one other = nat_le room (length ts) && (light one && light other)

-- how many records a product wants, and a sum with a product
abbrev pub product_room : List Term → List Term → ℕ
product_room one other = length one * length other

abbrev pub sum_room : List Term → List Term → ℕ
sum_room one other = length one + length other + length one * length other

-- n is the number of terms of the form p, which the first n records hold: they are the records of its terms, then come blank ones up to
-- place `reach`, at or past n, and from there on they are as before
pub record Held (reach : ℕ) (p : Form) (before after : List Term) (n : ℕ) : Type 0 where
  pub count : n ≡ length p
  pub bound : n ≤ reach
  pub form : form_in (take n after) ≡ p
  pub records : after ≡ map term_of p ++ (replicate (reach - n) blank_term ++ drop reach before)

-- refused exactly where it does not fit, and then nothing changes; else the form p is held
abbrev pub Merged : Bool → ℕ → Form → List Term → List Term → Option ℕ → Type 0
Merged fits reach p before after r = MatchOption r ((fits ≡ false) × (after ≡ before)) (λ n. (fits ≡ true) × Held reach p before after n)

-- the form of a gate over operands p and q: it comes to what the gate gives, in every row in which they come to wire values; and it
-- rises where they do
pub record Gated (gate : Bool → Bool → Bool) (p q result : Form) : Type 0 where
  pub counts : (r : ℕ) (a b : Bool) → value p r ≡ pos (bit a) → value q r ≡ pos (bit b) → value result r ≡ pos (bit (gate a b))
  pub rises : Rising 0 p → Rising 0 q → Rising 0 result

-- the first n records hold the form of a gate over two operands
abbrev pub Formed : ℕ → (Form → Form → Form) → (Bool → Bool → Bool) → List Term → List Term → List Term → List Term → ℕ → Type 0
Formed room form gate one other before after n =
    Held room (form (form_in one) (form_in other)) before after n × Gated gate (form_in one) (form_in other) (form_in (take n after))

-- refused exactly where it does not fit, and then nothing changes; else the form of the gate is held
abbrev pub WorkedOut : ℕ → (Form → Form → Form) → (Bool → Bool → Bool) → List Term → List Term → List Term → List Term → Option ℕ → Type 0
WorkedOut room form gate one other before after r =
    MatchOption r ((gate_fits room before one other ≡ false) × (after ≡ before))
    (λ n. (gate_fits room before one other ≡ true) × Formed room form gate one other before after n)

-- the records of a form written into a caller's: refused exactly where those are fewer, and then nothing changes; else the form's terms
-- stand in front, and later records stay
abbrev pub Written : List Term → List Term → List Term → Option ℕ → Type 0
Written form before after r =
    MatchOption r ((length before < length form) × (after ≡ before))
    (λ n. (length form ≤ length before) × (n ≡ length form) × (after ≡ map term_of (form_in form) ++ drop (length form) before))
