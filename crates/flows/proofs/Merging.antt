-- Columns and a rising form, walked together, give the form's coefficients in the columns.
use Rattle.std.proofs.Common.{◌≡◌, ℕ, suc, ◌<◌, ◌≤◌, Bool, eqb, List, [], ◌∷◌, map, ℤ, pos, ◌+ℤ◌, sym, refl, ap, ◌∙◌, subst, ap₂, inl, inr, arith}
use lib.IntN.{+ℤ_idr, +ℤ_idl}
use Rattle.std.specs.List.{AllByRecursion}
use Rattle.std.proofs.lemmas.Bool.{cond_both, eqb-true, eqb-false, ne_eqb}
use Rattle.terms.specs.Forms.{Form, Rising}
use Rattle.terms.proofs.Values.{share}
use Rattle.flows.specs.Columns.{columns_of, coefficient, table, merged}
use Rattle.flows.proofs.Listed.{Climbs, In, Covered, least, columns_climb, columns_cover}

-- a term below a rising form is not in it
below : (s lo : ℕ) (p : Form) → s < lo → Rising lo p → coefficient p s ≡ pos 0
below s lo [] h w = refl
below s lo (t ∷ p) h w =
    ap₂ (λ (b : Bool) (z : ℤ). share b t.1 +ℤ z) (ne_eqb t.0 s (λ e. omega arith)) (below s (suc t.0) p (omega arith) w.2)

-- the columns above the first term see the rest alone
rest_same : (lo : ℕ) (t : ℕ × ℤ) (p : Form) (cs : List ℕ) → t.0 < lo → Climbs lo cs → map (coefficient (t ∷ p)) cs ≡ map (coefficient p) cs
rest_same lo t p [] h w = refl
rest_same lo t p (c ∷ cs) h w =
    ap₂ (λ (z : ℤ) (zs : List ℤ). z ∷ zs)
    (ap (λ (b : Bool). share b t.1 +ℤ coefficient p c) (ne_eqb t.0 c (λ e. omega arith)) ∙ +ℤ_idl (coefficient p c))
    (rest_same (suc c) t p cs (omega arith) w.1)

-- a column below a form covers none of its terms
covered_rest : (c lo : ℕ) (cs : List ℕ) (p : Form) → c < lo → Rising lo p → Covered (c ∷ cs) p → Covered cs p
covered_rest c lo cs [] h w k = tt
covered_rest c lo cs (t ∷ p) h w k = (go k.0, covered_rest c (suc t.0) cs p (omega arith) w.2 k.1)
  where
    go : In t.0 (c ∷ cs) → In t.0 cs
    go (inl e) = absurd (omega arith)
    go (inr x) = x

pub merged_is : (lo : ℕ) (cs : List ℕ) (p : Form) → Climbs lo cs → Rising lo p → Covered cs p → merged cs p ≡ map (coefficient p) cs
merged_is lo [] p c w k = refl
merged_is lo (d ∷ cs) [] c w k = ap (λ (zs : List ℤ). pos 0 ∷ zs) (merged_is (suc d) cs [] c.1 tt tt)
merged_is lo (d ∷ cs) (t ∷ p) c w k =
    cond_both (eqb t.0 d) (t.1 ∷ merged cs p) (pos 0 ∷ merged cs (t ∷ p)) (λ (zs : List ℤ). zs ≡ map (coefficient (t ∷ p)) (d ∷ cs))
    (λ e. let f : t.0 ≡ d = eqb-true t.0 d e in
    let climb : Climbs (suc t.0) cs = subst (λ (n : ℕ). Climbs (suc n) cs) (sym f) c.1 in
    ap₂ (λ (z : ℤ) (zs : List ℤ). z ∷ zs)
    (sym (ap₂ (λ (b : Bool) (z : ℤ). share b t.1 +ℤ z) e (below d (suc t.0) p (omega arith) w.2) ∙ +ℤ_idr t.1))
    (merged_is (suc t.0) cs p climb w.2 (covered_rest d (suc t.0) cs p (omega arith) w.2 k.1) ∙ sym (rest_same (suc t.0) t p cs (omega arith) climb)))
    (λ e. let ne = eqb-false t.0 d e in
    let up : suc d ≤ t.0 = above k.0 ne in
    let rise : Rising (suc d) (t ∷ p) = (up, w.1, w.2) in
    ap₂ (λ (z : ℤ) (zs : List ℤ). z ∷ zs) (sym (below d (suc d) (t ∷ p) (omega arith) rise))
    (merged_is (suc d) cs (t ∷ p) c.1 rise (covered_rest d (suc d) cs (t ∷ p) (omega arith) rise k)))
  where
    above : In t.0 (d ∷ cs) → (t.0 ≡ d → ⊥) → suc d ≤ t.0
    above (inl e) ne = absurd (ne (sym e))
    above (inr x) ne = least t.0 (suc d) cs c.1 x

each_merged : (cs : List ℕ) (ps : List Form) → Climbs 0 cs → AllByRecursion (Rising 0) ps → AllByRecursion (Covered cs) ps → map (merged cs) ps ≡ map (λ p. map (coefficient p) cs) ps
each_merged cs [] c w k = refl
each_merged cs (p ∷ ps) c w k = ap₂ (λ (z : List ℤ) (zs : List (List ℤ)). z ∷ zs) (merged_is 0 cs p c w.0 k.0) (each_merged cs ps c w.1 k.1)

-- of rising flows, the rows of coefficients
pub merges : (flows : List Form) → AllByRecursion (Rising 0) flows → map (merged (columns_of flows)) flows ≡ table flows
merges flows w = each_merged (columns_of flows) flows (columns_climb flows) w (columns_cover flows)
