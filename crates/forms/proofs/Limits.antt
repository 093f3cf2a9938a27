-- The limit on coefficients, as the code tests it.
use Rattle.std.proofs.Common.{◌≡◌, ◌||◌, ltb, List, [], ◌∷◌, nat_abs, refl, ap}
use Rattle.std.specs.List.{list_any}
use Rattle.terms.specs.declared.term.Term.{Term}
use Rattle.terms.specs.Records.{form_in}
use Rattle.forms.specs.Gates.{large}

-- a form is large where some term of its records is
pub any_large : (ts : List Term) → list_any (λ t. ltb 8388608 (nat_abs t.coefficient)) ts ≡ large (form_in ts)
any_large [] = refl
any_large (t ∷ ts) = ap (λ b. ltb 8388608 (nat_abs t.coefficient) || b) (any_large ts)
