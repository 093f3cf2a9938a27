-- The forms of a sheet's lines and the values of its wires go hand in hand.
use Rattle.std.proofs.Common.{◌≡◌, ℕ, zero, suc, ◌+◌, ◌*◌, ◌/◌, ◌%◌, ◌^◌, max, Bool, true, false, cond, not, ◌&&◌, ◌||◌, eqb, List, [], ◌∷◌, ◌++◌, length, get_or, pos, ◌+ℤ◌, sym, refl, ap, ◌∙◌, ⊎_elim, pow-suc, arith}
use lib.Bits.{bit_or, or_step}
use Rattle.std.proofs.lemmas.Nat.{shr-shr}
use Rattle.std.proofs.lemmas.Int.{ints}
use Rattle.std.proofs.lemmas.Bool.{cases_lt, cases_eq, eq-eqb, ne_eqb}
use Rattle.std.proofs.lemmas.List.{get_or_append_left, get_or_push, get_or_past, length_push}
use Rattle.sheet.specs.declared.node.Node.{Node}
use Rattle.sheet.specs.declared.node.Node.TheVariants.{Free, Belt, Gate}
use Rattle.sheet.specs.declared.node.Gate.{Gate as Logic}
use Rattle.sheet.specs.declared.node.Gate.TheVariants.{Constant, Not, And, Or, Xor}
use Rattle.sheet.specs.Nodes.{is_free}
use Rattle.sheet.specs.Wires.{bit, gate_value, node_value, settled_from, settled}
use Rattle.terms.specs.Sets.{holds}
use Rattle.terms.specs.Forms.{Form, Rising, high, value, row_of}
use Rattle.terms.proofs.Meaning.{rows_by_wires}
use Rattle.terms.specs.Laws.{differ}
use Rattle.terms.specs.Records.{Gated}
use Rattle.terms.proofs.Gating.{one_value, not_gated, and_gated, or_gated, xor_gated}
use Rattle.terms.proofs.Rises.{one_rising}
use Rattle.forms.specs.Gates.{gate_form, node_form, forms_from, forms_of}

-- the form p counts the value v in the row r
pub record Says (r : ℕ) (p : Form) (v : Bool) : Type 0 where
  pub counts : value p r ≡ pos (bit v)
  pub rising : Rising 0 p

-- forms and values, line by line
pub record Twins (r : ℕ) (fs : List Form) (ws : List Bool) : Type 0 where
  pub long : length fs ≡ length ws
  pub says : (w : ℕ) → Says r (get_or fs w []) (get_or ws w false)

low_says : (r : ℕ) → Says r [] false
low_says r = record { counts = refl; rising = tt }

twins_push : (r : ℕ) (fs : List Form) (ws : List Bool) (p : Form) (v : Bool) → Twins r fs ws → Says r p v → Twins r (fs ++ p ∷ []) (ws ++ v ∷ [])
twins_push r fs ws p v t s =
    record {
      long = length_push fs p ∙ ap (λ n. n + 1) t.long ∙ sym (length_push ws v);
      says = λ w. ⊎_elim
          (λ lt. rw (get_or_append_left fs (p ∷ []) [] w lt, get_or_append_left ws (v ∷ []) false w (omega (arith, t.long))) (t.says w))
          (λ ge. ⊎_elim
          (λ e. rw (get_or_push fs p [] w e, get_or_push ws v false w (sym t.long ∙ e)) s)
          (λ n. rw (get_or_past (fs ++ p ∷ []) w [] (omega (arith, length_push fs p)), get_or_past (ws ++ v ∷ []) w false (omega (arith, length_push ws v, t.long))) (low_says r))
          (cases_eq (length fs) w))
          (cases_lt w (length fs));
    }

by_gate : (r : ℕ) (gate : Bool → Bool → Bool) (p q result : Form) (a b : Bool) → Gated gate p q result → Says r p a → Says r q b → Says r result (gate a b)
by_gate r gate p q result a b g s t = record { counts = g.counts r a b s.counts t.counts; rising = g.rises s.rising t.rising }

gate_says : (r : ℕ) (fs : List Form) (ws : List Bool) (g : Logic) → Twins r fs ws → Says r (gate_form fs g) (gate_value ws g)
gate_says r fs ws (Constant true) t = record { counts = one_value r; rising = one_rising }
gate_says r fs ws (Constant false) t = low_says r
gate_says r fs ws (Not w) t = by_gate r (λ a b. not a) _ _ _ (get_or ws w false) (get_or ws w false) (not_gated _) (t.says w) (t.says w)
gate_says r fs ws (And v w) t = by_gate r (λ a b. a && b) _ _ _ (get_or ws v false) (get_or ws w false) (and_gated _ _) (t.says v) (t.says w)
gate_says r fs ws (Or v w) t = by_gate r (λ a b. a || b) _ _ _ (get_or ws v false) (get_or ws w false) (or_gated _ _) (t.says v) (t.says w)
gate_says r fs ws (Xor v w) t = by_gate r differ _ _ _ (get_or ws v false) (get_or ws w false) (xor_gated _ _) (t.says v) (t.says w)

-- two tests of equivalent facts are equal
same_test : (a b c d : ℕ) → (a ≡ b → c ≡ d) → (c ≡ d → a ≡ b) → eqb a b ≡ eqb c d
same_test a b c d f g =
    ⊎_elim (λ e. eq-eqb a b e ∙ sym (eq-eqb c d (f e))) (λ n. ne_eqb a b n ∙ sym (ne_eqb c d (λ e. n (g e)))) (cases_eq a b)

-- the set of one wire is high in a row exactly when that wire is
high_alone : (k r : ℕ) → high (2 ^ k) r ≡ holds r k
high_alone zero r =
    let e : bit_or 1 r ≡ r / 2 * 2 + max 1 (r % 2) = or_step 1 r in
    same_test (bit_or 1 r) r (r / 1 % 2) 1 (λ h. omega arith) (λ h. omega arith)
high_alone (suc k) r =
    let p = pow-suc 2 k in
    let e = or_step (2 ^ suc k) r in
    let half : 2 ^ suc k / 2 ≡ 2 ^ k = omega arith in
    let more : 1 + k ≡ suc k = omega arith in
    same_test (bit_or (2 ^ suc k) r) r (bit_or (2 ^ suc k / 2) (r / 2)) (r / 2) (λ h. omega arith) (λ h. omega arith)
    ∙ ap (λ x. high x (r / 2)) half ∙ high_alone k (r / 2) ∙ ap (λ x. eqb (x % 2) 1) (shr-shr r 1 k ∙ ap (λ x. r / 2 ^ x) more)

once : (b : Bool) → cond b (pos 1) (pos 0) +ℤ pos 0 ≡ pos (bit b)
once true = refl
once false = refl

module _ (row : List Bool) where
  free_says : (k : ℕ) → Says (row_of row) ((2 ^ k, pos 1) ∷ []) (get_or row k false)
  free_says k = record { counts = once _ ∙ ap (λ b. pos (bit b)) (high_alone k (row_of row) ∙ rows_by_wires row k); rising = (omega arith, λ e. omega (arith, ints), tt) }

  node_says : (k : ℕ) (fs : List Form) (ws : List Bool) (n : Node) → Twins (row_of row) fs ws → Says (row_of row) (node_form k fs n) (node_value row k ws n)
  node_says k fs ws (Free s) t = free_says k
  node_says k fs ws (Belt o u) t = low_says (row_of row)
  node_says k fs ws (Gate g) t = gate_says (row_of row) fs ws g t

  twins_from : (k : ℕ) (fs : List Form) (ws : List Bool) (ns : List Node) → Twins (row_of row) fs ws → Twins (row_of row) (forms_from k fs ns) (settled_from row k ws ns)
  twins_from k fs ws [] t = t
  twins_from k fs ws (n ∷ ns) t = twins_from (k + bit (is_free n)) _ _ ns (twins_push (row_of row) fs ws _ _ t (node_says k fs ws n t))

-- every line's form counts its wire
pub twins : (ns : List Node) (row : List Bool) → Twins (row_of row) (forms_of ns) (settled ns row)
unfolding forms_of
twins ns row = twins_from row 0 [] [] ns (record { long = refl; says = λ w. low_says (row_of row) })
