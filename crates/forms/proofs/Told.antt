-- From slots to what the calls about wires answer.
use Rattle.std.proofs.Common.{◌≡◌, ℕ, Bool, true, false, ◌↔◌, List, [], get_or, take, pos, IfOk, IfSome, IsTrue, Some, None, Option, Result, sym, refl, ap, ◌∙◌, subst, arith}
use Rattle.std.specs.Option.{ok_or}
use Rattle.std.proofs.lemmas.Int.{ints}
use Rattle.std.proofs.lemmas.Bool.Decides.{Decides-like}
use Rattle.sheet.specs.declared.node.Node.{Node}
use Rattle.sheet.specs.declared.fault.Fault.{Fault}
use Rattle.sheet.specs.Wires.{bit}
use Rattle.terms.specs.declared.term.Term.{Term}
use Rattle.terms.specs.Forms.{Form, Rising}
use Rattle.terms.specs.Laws.{Alike}
use Rattle.terms.specs.Records.{form_in}
use Rattle.forms.specs.Gates.{forms_of}
use Rattle.forms.specs.Promises.{Counts, Agree}
use Rattle.forms.specs.Slots.{Allowed}
use Rattle.forms.proofs.Wiring.{twins}

-- every line's form counts its wire
pub counts_wire : (ns : List Node) (w : ℕ) → Counts ns w (get_or (forms_of ns) w [])
counts_wire ns w = record { rising = ((twins ns []).says w).rising; value_is = λ row. ((twins ns row).says w).counts }

module _ (ns : List Node) (fs : List Form) (allowed : Allowed ns fs) where
  pub form_at : (w : ℕ) → get_or fs w [] ≡ get_or (forms_of ns) w []
  form_at w = ap (λ gs. get_or gs w []) allowed.forms

  module _ (w : ℕ) (form : List Term) (same : form_in form ≡ get_or fs w []) (after : List Term) where
    is_form : form_in form ≡ get_or (forms_of ns) w []
    is_form = same ∙ form_at w

    -- what was written counts the wire
    pub tells : (o : Option ℕ) (r : Result ℕ Fault) (short : Fault) → IfSome o (λ n. form_in (take n after) ≡ form_in form) → r ≡ ok_or o short → IfOk r (λ n. Counts ns w (form_in (take n after)))
    tells None r short t e = rw e tt
    tells (Some n) r short t e = rw e (subst (Counts ns w) (sym (t ∙ is_form)) (counts_wire ns w))

bit_back : (a b : Bool) → pos (bit a) ≡ pos (bit b) → a ≡ b
bit_back true true e = refl
bit_back true false e = absurd (omega (arith, ints))
bit_back false true e = absurd (omega (arith, ints))
bit_back false false e = refl

-- two lines' forms come to the same in every row exactly when the wires agree in every row
alike_agree : (ns : List Node) (v w : ℕ) → Alike (get_or (forms_of ns) v []) (get_or (forms_of ns) w []) → Agree ns v w
alike_agree ns v w a row = bit_back _ _ (sym ((counts_wire ns v).value_is row) ∙ a row ∙ (counts_wire ns w).value_is row)

agree_alike : (ns : List Node) (v w : ℕ) → Agree ns v w → Alike (get_or (forms_of ns) v []) (get_or (forms_of ns) w [])
agree_alike ns v w a row = (counts_wire ns v).value_is row ∙ ap (λ b. pos (bit b)) (a row) ∙ sym ((counts_wire ns w).value_is row)

-- a test of two forms, as one of the forms that they are
pub same_equal : (p q p' q' : Form) (r : Bool) → p ≡ p' → q ≡ q' → (IsTrue r ↔ (p ≡ q)) → IsTrue r ↔ (p' ≡ q')
same_equal p q p' q' r e f d = rw (e, f) at d

pub same_agree : (ns : List Node) (v w : ℕ) (p q : Form) (r : Bool) → p ≡ get_or (forms_of ns) v [] → q ≡ get_or (forms_of ns) w [] → (Rising 0 p → Rising 0 q → (IsTrue r ↔ Alike p q)) → IsTrue r ↔ Agree ns v w
same_agree ns v w p q r e f d =
    let k : IsTrue r ↔ Alike (get_or (forms_of ns) v []) (get_or (forms_of ns) w []) = rw (e, f) at (d (subst (Rising 0) (sym e) (counts_wire ns v).rising) (subst (Rising 0) (sym f) (counts_wire ns w).rising)) in
    Decides-like r (alike_agree ns v w) (agree_alike ns v w) k
