-- A flow in working records: two products, the second taken from the first.
use Rattle.std.proofs.Common.{◌≡◌, ℕ, ◌+◌, ◌*◌, ◌^◌, ◌<◌, ◌≤◌, true, List, [], length, get_or, take, pos, negsuc, Some, None, Option, unwrap_or, sym, refl, ap, ◌∙◌, subst, ap₂, mul-le-mul, arith}
use Rattle.std.proofs.lemmas.Bool.{and_from, le-leb, lt-ltb, ltb-true, both_ways}
use Rattle.terms.specs.declared.term.Term.{Term}
use Rattle.terms.specs.Forms.{Form, and_form, add_product, norm}
use Rattle.terms.specs.Records.{form_in, light, product_fits, Merged}
use Rattle.terms.proofs.Norms.{add_product_norm, twice_light}
use Rattle.terms.proofs.Recorded.{in_front}
use Rattle.flows.specs.Flows.{Ports, flow_by}
use Rattle.flows.proofs.Flowing.{and_rises, flow_product}

-- a form in the first records, to which something was added
pub record Formed (p : Form) (records : List Term) (n : ℕ) : Type 0 where
  pub within : n ≤ length records
  pub form : form_in (take n records) ≡ p

-- the product of two light forms is light enough to be added to
pub product_norm : (one other : List Term) → light one ≡ true → light other ≡ true → norm (and_form (form_in one) (form_in other)) < 2 ^ 62
product_norm one other l m =
    omega (
      arith,
      add_product_norm (pos 1) [] (form_in one) (form_in other),
      twice_light 1 (norm (form_in one)) (norm (form_in other)) (omega arith) (ltb-true _ _ l) (ltb-true _ _ m),
    )

-- a product taken from a form in the first records, which has at most 624 terms
pub taken : (p : Form) (before after one other : List Term) (used r : ℕ) (o : Option ℕ)
    → form_in (take used before) ≡ p → used ≤ 624 → 1200 ≤ length before → norm p < 2 ^ 62
    → length one ≤ 24 → length other ≤ 24 → light one ≡ true → light other ≡ true
    → Merged (product_fits before used (negsuc 0) one other) (used + length one * length other) (add_product (negsuc 0) (form_in (take used before)) (form_in one) (form_in other)) before after o
    → r ≡ unwrap_or o used → Formed (add_product (negsuc 0) p (form_in one) (form_in other)) after r
taken p before after one other used r o e h l n a b f g m v = by o m v
  where
    room : used + length one * length other ≤ length before
    room = omega (arith, mul-le-mul a b)

    small : norm (form_in (take used before)) < 2 ^ 62
    small = subst (λ q. norm q < 2 ^ 62) (sym e) n

    fits : product_fits before used (negsuc 0) one other ≡ true
    fits =
        and_from _ _ (and_from _ _ (le-leb used (length before) (omega arith)) (lt-ltb _ (2 ^ 62) small))
        (and_from _ _ (le-leb _ (length before) room) (and_from _ _ refl (and_from _ _ f g)))

    by : (o : Option ℕ) → Merged (product_fits before used (negsuc 0) one other) (used + length one * length other) (add_product (negsuc 0) (form_in (take used before)) (form_in one) (form_in other)) before after o → r ≡ unwrap_or o used → Formed (add_product (negsuc 0) p (form_in one) (form_in other)) after r
    by None m v = absurd (both_ways (product_fits before used (negsuc 0) one other) m.0 fits)
    by (Some k) m v =
        subst (Formed (add_product (negsuc 0) p (form_in one) (form_in other)) after) (sym v)
        (record { within = (in_front _ k _ before after m.1).within; form = m.1.form ∙ ap (λ q. add_product (negsuc 0) q (form_in one) (form_in other)) e })

-- with the forms that the ports name, it is the flow
pub flow_formed : (fs : List Form) (p : Ports) (one other records : List Term) (n : ℕ)
    → Formed (add_product (negsuc 0) (and_form (get_or fs p.offer []) (get_or fs p.room [])) (form_in one) (form_in other)) records n
    → form_in one ≡ get_or fs p.take [] → form_in other ≡ get_or fs p.item [] → Formed (flow_by fs p) records n
flow_formed fs p one other records n t e f =
    let entering = and_form (get_or fs p.offer []) (get_or fs p.room []) in
    record {
      within = t.within;
      form = t.form ∙ ap₂ (add_product (negsuc 0) entering) e f ∙ sym (flow_product entering (get_or fs p.take []) (get_or fs p.item []) (and_rises (get_or fs p.offer []) (get_or fs p.room [])));
    }
