-- With which numbers the calls about wires may refuse.
use Rattle.std.proofs.Common.{◌≡◌, ℕ, zero, suc, ◌+◌, List, [], ◌∷◌, ◌++◌, length, Ok, Err, refl, subst, arith}
use Rattle.std.specs.Prelude.{Contains, nat_lt}
use Rattle.sheet.specs.declared.node.Node.{Node}
use Rattle.sheet.specs.declared.node.Node.TheVariants.{Free, Belt, Gate}
use Rattle.sheet.specs.declared.fault.Fault.{Fault}
use Rattle.sheet.specs.declared.fault.Refusal.TheVariants.{LongForm, LongForms, LargeCoefficient}
use Rattle.sheet.specs.Refusals.{IsOneOf, form_numbers, term_numbers, same_form_numbers}
use Rattle.sheet.specs.Nodes.{is_free}
use Rattle.sheet.specs.Wires.{bit}
use Rattle.sheet.proofs.Numbers.{Within, then_within, if_within}
use Rattle.terms.specs.Forms.{Form}
use Rattle.forms.specs.Gates.{node_form, large, together, limits_from, limits}

-- the limits refuse with their own numbers alone, in whatever list those are
module _ (numbers : List ℕ) (long : Contains numbers 15) (together_long : Contains numbers 16) (large_one : Contains numbers 17) where
  together_within : (sofar line : ℕ) (n : Node) (p : Form) → Within numbers (together sofar line n p)
  together_within sofar line (Free s) p = tt
  together_within sofar line (Belt o t) p = tt
  together_within sofar line (Gate g) p =
      if_within numbers (nat_lt 24 (length p)) LongForm line _ long
      (if_within numbers (nat_lt 2048 (sofar + length p)) LongForms line _ together_long
      (if_within numbers (large p) LargeCoefficient line (Ok (sofar + length p)) large_one tt))

  limits_from_within : (sofar k : ℕ) (fs : List Form) (ns : List Node) → Within numbers (limits_from sofar k fs ns)
  limits_from_within sofar k fs [] = tt
  limits_from_within sofar k fs (n ∷ ns) =
      then_within numbers (together sofar (length fs) n (node_form k fs n)) _ (together_within sofar (length fs) n (node_form k fs n))
      (λ more. limits_from_within more (k + bit (is_free n)) (fs ++ node_form k fs n ∷ []) ns)

  pub limits_within : (ns : List Node) → Within numbers (limits ns)
  unfolding limits
  limits_within ns = limits_from_within 0 0 [] ns

-- a limit that is passed
pub limit_number : (ns : List Node) (e : Fault) → limits ns ≡ Err e → IsOneOf form_numbers e
limit_number ns e h = subst (Within form_numbers) h (limits_within form_numbers (0, omega arith, refl) (1, omega arith, refl) (2, omega arith, refl) ns)

-- the numbers of the limits are among those of the calls about wires
pub form_term : (x : ℕ) → Contains form_numbers x → Contains term_numbers x
form_term x (zero, l, e) = (1, omega arith, e)
form_term x (suc zero, l, e) = (2, omega arith, e)
form_term x (suc (suc zero), l, e) = (3, omega arith, e)
form_term x (suc (suc (suc k)), l, e) = absurd (omega arith)

pub form_same : (x : ℕ) → Contains form_numbers x → Contains same_form_numbers x
form_same x (zero, l, e) = (1, omega arith, e)
form_same x (suc zero, l, e) = (2, omega arith, e)
form_same x (suc (suc zero), l, e) = (3, omega arith, e)
form_same x (suc (suc (suc k)), l, e) = absurd (omega arith)
