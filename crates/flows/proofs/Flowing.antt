-- A belt's flow rises, and in every row it comes to the belt's gain.
use Rattle.std.proofs.Common.{◌≡◌, ℕ, suc, ◌+◌, ◌<◌, Bool, true, false, cond, not, ◌&&◌, List, [], ◌∷◌, ◌++◌, length, get_or, ℤ, pos, negsuc, ◌+ℤ◌, ◌-ℤ◌, ◌*ℤ◌, count_by, sym, refl, ap, ◌∙◌, subst, ap₂, arith}
use lib.IntN.{+ℤ_idl}
use Rattle.std.specs.List.{AllByRecursion, position_or_len}
use Rattle.std.proofs.lemmas.List.FromFn.{length-map-range_with_len, get_or-map-range_with_len}
use Rattle.std.proofs.ByRecursion.{All-from_get_or}
use Rattle.std.proofs.lemmas.List.{length_push}
use Rattle.std.proofs.lemmas.Int.{ints}
use Rattle.sheet.specs.declared.node.Node.{Node}
use Rattle.sheet.specs.Nodes.{is_free, is_belt, is_room_of, is_item_of}
use Rattle.sheet.specs.Wires.{bit, node_value, settled_from, settled, value_where}
use Rattle.terms.specs.Forms.{Form, Rising, value, row_of, scaled, and_form, add_scaled, add_product}
use Rattle.terms.proofs.Canon.{equal_from}
use Rattle.terms.proofs.Gating.{and_gated}
use Rattle.terms.proofs.Rises.{add_all_rising, add_product_rising}
use Rattle.terms.proofs.Values.{add_scaled_value, add_product_value}
use Rattle.forms.specs.Gates.{forms_of}
use Rattle.forms.proofs.Told.{counts_wire}
use Rattle.kinds.specs.Wholes.{*ℤ_assoc}
use Rattle.flows.specs.Flows.{ports_of, flow_of, flows_of}
use Rattle.flows.specs.Completeness.{gain, Counting}

-- ---- flows rise

pub and_rises : (p q : Form) → Rising 0 (and_form p q)
and_rises p q = add_product_rising (pos 1) [] p q tt

pub flows_rise : (ns : List Node) (b : ℕ) → Rising 0 (flow_of ns b)
flows_rise ns b =
    let form : ℕ → Form = λ w. get_or (forms_of ns) w [] in
    let p = ports_of ns b in
    add_all_rising (and_form (form p.offer) (form p.room)) (scaled 0 (negsuc 0) (and_form (form p.take) (form p.item))) (and_rises (form p.offer) (form p.room))

pub all_flows_rise : (ns : List Node) → AllByRecursion (Rising 0) (flows_of ns)
all_flows_rise ns =
    let n = count_by is_belt ns in
    All-from_get_or (Rising 0) (flows_of ns) []
    (λ b l. let k : b < n = omega (arith, length-map-range_with_len (flow_of ns) 0 n) in
    subst (Rising 0) (sym (get_or-map-range_with_len (flow_of ns) 0 n b b [] k (omega arith))) (flows_rise ns b))

-- ---- less a conjunction is less a product

product_of : (p x y : ℤ) → p +ℤ negsuc 0 *ℤ (pos 0 +ℤ pos 1 *ℤ x *ℤ y) ≡ p +ℤ negsuc 0 *ℤ x *ℤ y
product_of p x y = ap (λ (z : ℤ). p +ℤ z) (ap (λ (z : ℤ). negsuc 0 *ℤ z) (+ℤ_idl _ ∙ *ℤ_assoc (pos 1) x y ∙ one_times (x *ℤ y)) ∙ sym (*ℤ_assoc (negsuc 0) x y))
  where
    one_times : (z : ℤ) → pos 1 *ℤ z ≡ z
    one_times z = omega (arith, ints)

pub flow_product : (p t i : Form) → Rising 0 p → add_scaled (negsuc 0) p (and_form t i) ≡ add_product (negsuc 0) p t i
flow_product p t i w =
    equal_from 0 _ _ (add_all_rising p (scaled 0 (negsuc 0) (and_form t i)) w) (add_product_rising (negsuc 0) p t i w)
    (λ r. add_scaled_value (negsuc 0) p (and_form t i) r
    ∙ ap (λ (z : ℤ). value p r +ℤ negsuc 0 *ℤ z) (add_product_value (pos 1) [] t i r)
    ∙ product_of (value p r) (value t r) (value i r)
    ∙ sym (add_product_value (negsuc 0) p t i r))

-- ---- flows count gains

settled_length : (row : List Bool) (k : ℕ) (ws : List Bool) (ns : List Node) → length (settled_from row k ws ns) ≡ length ws + length ns
settled_length row k ws [] = omega arith
settled_length row k ws (n ∷ ns) =
    let a = settled_length row (k + bit (is_free n)) (ws ++ node_value row k ws n ∷ []) ns in
    let b = length_push ws (node_value row k ws n) in
    omega arith

pub length_settled : (ns : List Node) (row : List Bool) → length (settled ns row) ≡ length ns
length_settled ns row = omega (arith, settled_length row 0 [] ns)

-- the value at the first line that passes a test
pub value_at : (p : Node → Bool) (ns : List Node) (ws : List Bool) → length ws ≡ length ns → value_where p ns ws ≡ get_or ws (position_or_len p ns) false
value_at p [] [] l = refl
value_at p [] (w ∷ ws) l = absurd (omega arith)
value_at p (n ∷ ns) [] l = absurd (omega arith)
value_at p (n ∷ ns) (w ∷ ws) l = go (p n) (value_at p ns ws (omega arith))
  where
    go : (b : Bool) → value_where p ns ws ≡ get_or ws (position_or_len p ns) false → cond b w (value_where p ns ws) ≡ get_or (w ∷ ws) (cond (not b) (1 + position_or_len p ns) 0) false
    go true e = refl
    go false e =
        let next : suc (position_or_len p ns) ≡ 1 + position_or_len p ns = omega arith in
        e ∙ ap (λ k. get_or (w ∷ ws) k false) next

-- a conjunction of two lines' forms counts the conjunction of their wires
event_counts : (ns : List Node) (row : List Bool) (v w : ℕ) → value (and_form (get_or (forms_of ns) v []) (get_or (forms_of ns) w [])) (row_of row) ≡ pos (bit (get_or (settled ns row) v false && get_or (settled ns row) w false))
event_counts ns row v w = (and_gated _ _).counts (row_of row) _ _ ((counts_wire ns v).value_is row) ((counts_wire ns w).value_is row)

-- a form less another counts one bit less another
less_counts : (p q : Form) (r : ℕ) (a b : Bool) → value p r ≡ pos (bit a) → value q r ≡ pos (bit b) → value (add_scaled (negsuc 0) p q) r ≡ pos (bit a) -ℤ pos (bit b)
less_counts p q r a b e f = add_scaled_value (negsuc 0) p q r ∙ ap₂ (λ (x y : ℤ). x +ℤ negsuc 0 *ℤ y) e f ∙ less_bits a b
  where
    less_bits : (a b : Bool) → pos (bit a) +ℤ negsuc 0 *ℤ pos (bit b) ≡ pos (bit a) -ℤ pos (bit b)
    less_bits true true = refl
    less_bits true false = refl
    less_bits false true = refl
    less_bits false false = refl

-- in every row a belt's flow comes to its gain
pub flow_counts : (ns : List Node) (b : ℕ) (row : List Bool) → value (flow_of ns b) (row_of row) ≡ gain ns row b
flow_counts ns b row =
    let ws = settled ns row in
    let wire : ℕ → Bool = λ w. get_or ws w false in
    let form : ℕ → Form = λ w. get_or (forms_of ns) w [] in
    let p = ports_of ns b in
    let at : (test : Node → Bool) → value_where test ns ws ≡ wire (position_or_len test ns) = λ test. value_at test ns ws (length_settled ns row) in
    less_counts (and_form (form p.offer) (form p.room)) (and_form (form p.take) (form p.item)) (row_of row)
    (wire p.offer && wire p.room) (wire p.take && wire p.item) (event_counts ns row p.offer p.room) (event_counts ns row p.take p.item)
    ∙ sym (ap₂ (λ (x y : Bool). pos (bit (wire p.offer && x)) -ℤ pos (bit (wire p.take && y))) (at (is_room_of b)) (at (is_item_of b)))

pub flows_count : (ns : List Node) → Counting (flows_of ns) (gain ns)
flows_count ns b l row =
    let n = count_by is_belt ns in
    let k : b < n = omega (arith, length-map-range_with_len (flow_of ns) 0 n) in
    ap (λ (p : Form). value p (row_of row)) (get_or-map-range_with_len (flow_of ns) 0 n b b [] k (omega arith)) ∙ flow_counts ns b row
