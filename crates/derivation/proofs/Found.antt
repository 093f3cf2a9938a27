-- Terms found once more: the columns that records list.
use Rattle.std.proofs.Common.{◌≡◌, ℕ, ◌+◌, ◌*◌, ◌^◌, ◌<◌, ◌≤◌, Bool, true, false, cond, ltb, List, [], ◌∷◌, length, get_or, take, drop, ℤ, pos, negsuc, ◌+ℤ◌, Some, None, Option, unwrap_or, count_by, sym, refl, ap, ◌∙◌, subst, arith}
use Rattle.std.specs.List.{fold, list_all}
use Rattle.std.proofs.lemmas.Bool.{and_from, and_parts, false≢true, ltb-true, le-leb, lt-ltb, ltb-false, ne_eqb, both_ways}
use Rattle.std.proofs.lemmas.List.{length-map, length-take-le, at_drop_more, at_drop_all}
use Rattle.terms.specs.declared.term.Term.{Term}
use Rattle.terms.specs.Forms.{Form, norm, keep, insert}
use Rattle.terms.specs.Records.{entry_of, form_in, term_fits, Merged}
use Rattle.terms.specs.Sets.{number_of}
use Rattle.terms.proofs.Norms.{insert_norm}
use Rattle.terms.proofs.Recorded.{unread, in_front}
use Rattle.sheet.specs.declared.node.Node.{Node}
use Rattle.sheet.specs.Nodes.{is_belt}
use Rattle.flows.specs.Flows.{flow_by, ports_of}
use Rattle.derivation.proofs.Lines.{flows_many, flow_at}
use Rattle.flows.specs.Columns.{listed, with_form, columns_of}
use Rattle.flows.proofs.Listed.{columns_grow, all_columns_grow}
use Rattle.derivation.specs.Memory.{flows_by, sets_of, is_above, Above, columns_in, findings, Found}
use Rattle.derivation.specs.declared.columns.Columns.{Columns}
use Rattle.derivation.specs.Tables.{sets_in, found_in, Lists}

-- the first n records list the columns cs; terms were found at most k times
pub record Listed (k : ℕ) (cs : List ℕ) (records : List Term) (n : ℕ) : Type 0 where
  pub within : n ≤ length records
  pub columns : columns_in (take n records) ≡ cs
  pub found : Found (take n records)
  pub few : findings (take n records) ≤ k

-- a term found once more is kept
once_more : (x : ℤ) → is_above x ≡ true → is_above (pos 1 +ℤ x) ≡ true
once_more (pos n) e = lt-ltb 0 (1 + n) (omega arith)
once_more (negsuc n) e = absurd (false≢true e)

kept : (s : ℕ) (x : ℤ) (p : Form) → is_above x ≡ true → keep s x p ≡ (s, x) ∷ p
kept s (pos n) p e = ap (λ b. cond b p ((s, pos n) ∷ p)) (ne_eqb n 0 (λ z. omega (arith, ltb-true 0 n e)))
kept s (negsuc n) p e = absurd (false≢true e)

above_parts : (t : ℕ × ℤ) (p : Form) → Above (t ∷ p) → (is_above t.1 ≡ true) × Above p
above_parts t p a = and_parts (is_above t.1) (list_all (λ u. is_above u.1) p) a

module _ (s : ℕ) where
  -- the records of a form, one term more, are those of its sets with one more among them
  pub insert_sets : (p : Form) → Above p → sets_of (insert s (pos 1) p) ≡ listed s (sets_of p)
  insert_sets [] a = refl
  insert_sets (t ∷ p) a = by (insert_sets p parts.1) (ltb s t.0) refl (ltb t.0 s) refl
    where
      parts : (is_above t.1 ≡ true) × Above p
      parts = above_parts t p a

      by : sets_of (insert s (pos 1) p) ≡ listed s (sets_of p) → (b : Bool) → ltb s t.0 ≡ b → (d : Bool) → ltb t.0 s ≡ d
          → sets_of (cond b ((s, pos 1) ∷ t ∷ p) (cond d (t ∷ insert s (pos 1) p) (keep s (pos 1 +ℤ t.1) p)))
          ≡ cond b (s ∷ t.0 ∷ sets_of p) (cond d (t.0 ∷ listed s (sets_of p)) (t.0 ∷ sets_of p))
      by ih true e d f = refl
      by ih false e true f = ap (λ cs. t.0 ∷ cs) ih
      by ih false e false f =
          let same : s ≡ t.0 = omega (arith, ltb-false s t.0 e, ltb-false t.0 s f) in
          ap sets_of (kept s (pos 1 +ℤ t.1) p (once_more t.1 parts.0)) ∙ ap (λ c. c ∷ sets_of p) same

  pub insert_above : (p : Form) → Above p → Above (insert s (pos 1) p)
  insert_above [] a = refl
  insert_above (t ∷ p) a = by (insert_above p parts.1) (ltb s t.0) (ltb t.0 s)
    where
      parts : (is_above t.1 ≡ true) × Above p
      parts = above_parts t p a

      by : Above (insert s (pos 1) p) → (b d : Bool) → Above (cond b ((s, pos 1) ∷ t ∷ p) (cond d (t ∷ insert s (pos 1) p) (keep s (pos 1 +ℤ t.1) p)))
      by ih true d = a
      by ih false true = and_from _ _ parts.0 ih
      by ih false false =
          let more = once_more t.1 parts.0 in
          subst Above (sym (kept s (pos 1 +ℤ t.1) p more)) (and_from _ _ more parts.1)

  -- what one more term leaves
  pub one_more : (c : Columns) (after : List Term) (r : ℕ) (o : Option ℕ) → c.used ≤ 256 → found_in c ≤ 1000000
      → Merged (term_fits c.records c.used (pos 1)) (c.used + 1) (insert s (pos 1) (form_in (take c.used c.records))) c.records after o → r ≡ unwrap_or o c.used
      → Listed (found_in c + 1) (listed s (sets_in c)) after r
  one_more c after r None h l m v =
      absurd (both_ways (term_fits c.records c.used (pos 1)) m.0
      (and_from _ _ (and_from _ _ (le-leb c.used (length c.records) (omega (arith, h, c.whole))) (lt-ltb _ (2 ^ 62) (omega arith)))
      (and_from _ _ (lt-ltb c.used (length c.records) (omega (arith, h, c.whole))) refl)))
  one_more c after r (Some n) h l m v =
      let p = form_in (take c.used c.records) in
      subst (Listed (found_in c + 1) (listed s (sets_in c)) after) (sym v)
      (record {
        within = (in_front _ n _ c.records after m.1).within;
        columns = ap sets_of m.1.form ∙ insert_sets p c.found;
        found = subst Above (sym m.1.form) (insert_above p c.found);
        few = subst (λ q. norm q ≤ norm p + 1) (sym m.1.form) (omega (arith, insert_norm s (pos 1) p));
      })

-- the terms of a flow, found one after another
module _ (flow : List Term) (first : List ℕ) (start : ℕ) where
  pub record Going (c : Columns) (i : ℕ) : Type 0 where
    pub most : c.used ≤ 256
    pub left : with_form (sets_in c) (form_in (drop i flow)) ≡ with_form first (form_in flow)
    pub few : found_in c ≤ start + i

pub many_columns : (c : Columns) → length (sets_in c) ≡ c.used
many_columns c =
    length-map (form_in (take c.used c.records)) (λ t. t.0) ∙ length-map (take c.used c.records) entry_of
    ∙ length-take-le c.used c.records (omega (arith, c.whole, c.within))

module _ (flow : List Term) (first : List ℕ) (start : ℕ) (before after : Columns) (i : ℕ) (h : i < length flow) (g : Going flow first start before i)
    (l : Lists (found_in before + 1) (listed (number_of (get_or flow i unread).set) (sets_in before)) after) where
  on : with_form (sets_in after) (form_in (drop (i + 1) flow)) ≡ with_form first (form_in flow)
  on = ap (λ cs. with_form cs (form_in (drop (i + 1) flow))) l.columns ∙ sym (at_drop_more (λ ts. with_form (sets_in before) (form_in ts)) flow i unread h) ∙ g.left

  -- past 256 columns there is no way back
  pub too_many : 256 < after.used → 256 < length (with_form first (form_in flow))
  too_many k = omega (arith, ap length on, columns_grow (sets_in after) (form_in (drop (i + 1) flow)), many_columns after)

-- the flows of a sheet's belts, from the forms of its lines, one after another
module _ (ns : List Node) (fs : List Form) where
  pub record Gathered (c : Columns) (b : ℕ) : Type 0 where
    pub most : c.used ≤ 256
    pub left : fold with_form (sets_in c) (drop b (flows_by ns fs)) ≡ columns_of (flows_by ns fs)
    pub few : found_in c ≤ b * 1200

  -- the flow of belt b, in the first r working records
  module _ (before after : Columns) (work : List Term) (r b : ℕ) (h : b < count_by is_belt ns) (g : Gathered before b) (e : form_in (take r work) ≡ flow_by fs (ports_of ns b)) where
    abbrev flow : List Term
    flow = take r work

    rest : fold with_form (with_form (sets_in before) (form_in flow)) (drop (b + 1) (flows_by ns fs)) ≡ columns_of (flows_by ns fs)
    rest =
        ap (λ p. fold with_form (with_form (sets_in before) p) (drop (b + 1) (flows_by ns fs))) (e ∙ sym (flow_at ns fs b h))
        ∙ sym (at_drop_more (fold with_form (sets_in before)) (flows_by ns fs) b [] (omega (arith, flows_many ns fs))) ∙ g.left

    pub gathered_on : r ≤ length work → length work ≡ 1200 → after.used ≤ 256 → Lists (found_in before + length flow) (with_form (sets_in before) (form_in flow)) after → Gathered after (b + 1)
    gathered_on k s u l =
        let short : length flow ≤ 1200 = omega (arith, length-take-le r work (omega arith)) in
        record { most = u; left = ap (λ cs. fold with_form cs (drop (b + 1) (flows_by ns fs))) l.columns ∙ rest; few = omega (arith, l.few, g.few) }

    pub overfull : 256 < length (with_form (sets_in before) (form_in flow)) → 256 < length (columns_of (flows_by ns fs))
    overfull k = omega (arith, ap length rest, all_columns_grow (with_form (sets_in before) (form_in flow)) (drop (b + 1) (flows_by ns fs)))

  pub all_gathered : (c : Columns) (b : ℕ) → count_by is_belt ns ≤ b → Gathered c b → sets_in c ≡ columns_of (flows_by ns fs)
  all_gathered c b h g = sym (at_drop_all (fold with_form (sets_in c)) (flows_by ns fs) b (omega (arith, flows_many ns fs))) ∙ g.left
