use borrow.Author.Tests.{tests}
use Rattle.std.specs.List.{list_all, zip}
use Rattle.std.proofs.lemmas.Iterator.{YieldsList-from_slice, YieldsList-from_zip}
use Rattle.std.proofs.lemmas.Iterator.Search.{all_from_yields_List}
use Rattle.std.proofs.Common.{rules, ◌≡◌, Bool, true, false, ◌&&◌, eqb, ◌⊎◌, List, [], ◌∷◌, length, ◌-ℤ◌, nat_abs, sym, refl, ap, ◌∙◌, inl, inr, arith}
use Rattle.std.proofs.Math.Bool.{and_assoc}
use Rattle.std.proofs.lemmas.Bool.{cases_Bool}
use Rattle.terms.specs.declared.term.Term.{Term}
use Rattle.terms.specs.Sets.{number_of}
use Rattle.terms.specs.Forms.{same}
use Rattle.terms.specs.Records.{form_in}
use Rattle.terms.proofs.Canon.{same_means}
use Rattle.terms.proofs.Recorded.{length_form_in}
use Rattle.terms.proofs.reading.matching.Goals as goal

-- forms of different lengths are not the same
other_lengths : (A B : List Term) → (length A ≡ length B → ⊥) → false ≡ same (form_in A) (form_in B)
other_lengths A B h = go (cases_Bool (same (form_in A) (form_in B)))
  where
    go : ((same (form_in A) (form_in B) ≡ true) ⊎ (same (form_in A) (form_in B) ≡ false)) → false ≡ same (form_in A) (form_in B)
    go (inl e) = absurd (h (sym (length_form_in A) ∙ ap length ((same_means (form_in A) (form_in B)).0 e) ∙ length_form_in B))
    go (inr e) = sym e

-- two terms, as the code compares them
abbrev alike : Term × Term → Bool
alike p = eqb (number_of p.0.set) (number_of p.1.set) && eqb (nat_abs (p.0.coefficient -ℤ p.1.coefficient)) 0

term_by_term : (A B : List Term) → length A ≡ length B → list_all alike (zip A B) ≡ same (form_in A) (form_in B)
term_by_term [] [] h = refl
term_by_term [] (u ∷ B) h = absurd (omega arith)
term_by_term (t ∷ A) [] h = absurd (omega arith)
term_by_term (t ∷ A) (u ∷ B) h =
    let x = eqb (number_of t.set) (number_of u.set) in
    let y = eqb (nat_abs (t.coefficient -ℤ u.coefficient)) 0 in
    ap (λ z. (x && y) && z) (term_by_term A B (omega arith)) ∙ and_assoc x y (same (form_in A) (form_in B))

pub returns-then-one-other : goal.returns-then-one-other
returns-then-one-other c = other_lengths c.args.one.now c.args.other.now c.if-one-other.true

pub returns : goal.returns
returns c =
    let A = c.args.one.now in
    let B = c.args.other.now in
    all_from_yields_List alike c.all.new.self _ c.all.result c.all.ensures.ran (YieldsList-from_zip {s = c.zip.result} (YieldsList-from_slice A (ap (λ s. s.rest.now) c.zip.ensures.first ∙ c.iter.ensures.rest)) (YieldsList-from_slice B (search rules))) (λ x b q k. search (rules, tests))
    ∙ term_by_term A B (omega arith)
