-- The columns of a list of flows: their different terms, rising; and the coefficients of each flow in them. Assumes nothing.
use Rattle.std.specs.Prelude.{ℕ, cond, List, [], ◌∷◌, map, ℤ, pos, ◌+ℤ◌, ◌==◌, nat_lt}
use Rattle.std.specs.List.{fold}
use Rattle.terms.specs.Forms.{Form}

-- a term among rising ones, once
abbrev pub listed : ℕ → List ℕ → List ℕ
listed s [] = s ∷ []
listed s (c ∷ cs) = cond (nat_lt s c) (s ∷ c ∷ cs) (cond (nat_lt c s) (c ∷ listed s cs) (c ∷ cs))

-- the terms of a form among them
abbrev pub with_form : List ℕ → Form → List ℕ
with_form = fold (λ cs t. listed t.0 cs)

-- the different terms of the flows, rising
abbrev pub columns_of : List Form → List ℕ
columns_of = fold with_form []

-- the coefficient with which a term stands in a form, zero where it does not
abbrev pub coefficient : Form → ℕ → ℤ
coefficient [] s = pos 0
coefficient (t ∷ p) s = cond (t.0 == s) t.1 (pos 0) +ℤ coefficient p s

-- the coefficients of each flow in the columns
abbrev pub table : List Form → List (List ℤ)
table flows = map (λ p. map (coefficient p) (columns_of flows)) flows

-- the coefficients of a rising form whose terms are all among rising columns: both walked together
abbrev pub merged : List ℕ → Form → List ℤ
merged [] p = []
merged (c ∷ cs) [] = pos 0 ∷ merged cs []
merged (c ∷ cs) (t ∷ p) = cond (t.0 == c) (t.1 ∷ merged cs p) (pos 0 ∷ merged cs (t ∷ p))
