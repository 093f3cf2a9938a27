-- The balances of a sheet's belts are complete, and hold of every count that is a sum of gains.
use Rattle.std.proofs.Common.{◌≡◌, ℕ, zero, suc, ◌%◌, ◌<◌, ◌≤◌, Bool, true, false, cond, List, [], ◌∷◌, map, length, ℤ, pos, ◌+ℤ◌, ◌*ℤ◌, nat_abs, Ok, count_by, sym, refl, ap, ◌∙◌, subst, ap₂, arith}
use lib.IntN.{*ℤ-zero}
use Rattle.std.specs.Prelude.{int_lt}
use Rattle.std.specs.List.{AllByRecursion}
use Rattle.std.proofs.lemmas.List.FromFn.{length-map-range_with_len}
use Rattle.std.proofs.ByRecursion.{All-weaker}
use Rattle.std.proofs.lemmas.Int.{ints}
use Rattle.std.proofs.lemmas.Bool.{ltb-false, eqb-false, ne_eqb}
use Rattle.sheet.specs.declared.node.Node.{Node}
use Rattle.sheet.specs.Nodes.{is_belt}
use Rattle.sheet.proofs.Refusals.{then_ok}
use Rattle.terms.proofs.IntLaws.{mul_sum}
use Rattle.forms.specs.Gates.{limits}
use Rattle.kinds.specs.Kinds.{Kind, wholes, parities}
use Rattle.kinds.specs.Elimination.{at}
use Rattle.kinds.specs.Completeness.{LeadsAbove}
use Rattle.kinds.specs.Wholes.{wholes_lawful}
use Rattle.kinds.specs.Parities.{parities_lawful}
use Rattle.flows.specs.Flows.{flow_of, flows_of}
use Rattle.flows.specs.Derivation.{balances_of, derived}
use Rattle.flows.specs.Completeness.{Zero, Even, comes_to, over_rows, gain, weighting, StaysZero, Complete, AllLeadAbove}
use Rattle.flows.proofs.Complete.{CountsZero, balances_complete, balances_signed}
use Rattle.flows.proofs.Flowing.{flows_count}

-- ---- the two kinds

map_same : (w : List ℤ) → map (λ x. x) w ≡ w
map_same [] = refl
map_same (x ∷ w) = ap (λ (v : List ℤ). x ∷ v) (map_same w)

-- an odd first weight is written as 1, after zeros
at_written : (w : List Bool) (i : ℕ) → at wholes (map parities.writes w) i ≡ parities.writes (at parities w i)
at_written [] i = refl
at_written (x ∷ w) zero = refl
at_written (x ∷ w) (suc i) = at_written w i

parities_above : (w : List Bool) → LeadsAbove parities w → LeadsAbove wholes (map parities.writes w)
parities_above w a = record {
  first = a.first;
  nonzero = λ e. a.nonzero (even (at parities w a.first) (sym (at_written w a.first) ∙ e));
  not_below = ap (λ z. int_lt z (pos 0)) (at_written w a.first) ∙ not_below (at parities w a.first);
  zeros_before = λ i l. at_written w i ∙ ap parities.writes (a.zeros_before i l);
}
  where
    even : (x : Bool) → parities.writes x ≡ pos 0 → x ≡ false
    even true e = absurd (let z : ◌≡◌ {A = ℕ} 1 0 = ap nat_abs e in omega arith)
    even false e = refl

    not_below : (x : Bool) → int_lt (parities.writes x) (pos 0) ≡ false
    not_below true = refl
    not_below false = refl

pub wholes_count : CountsZero wholes Zero
wholes_count = record {
  lawful = wholes_lawful;
  means = λ x. ((λ h. h), (λ h. h));
  above = λ w a. subst (LeadsAbove wholes) (sym (map_same w)) a;
  small = λ x h. let n = ltb-false 1000000 (nat_abs x) h in omega arith;
}

pub parities_count : CountsZero parities Even
parities_count = record {
  lawful = parities_lawful;
  means = λ x. ((λ h. ne_eqb (nat_abs x % 2) 1 (λ e. omega arith)), (λ h. let n = eqb-false (nat_abs x % 2) 1 h in omega arith));
  above = parities_above;
  small = λ x h. small x;
}
  where
    small : (x : Bool) → nat_abs (cond x (pos 1) (pos 0)) ≤ 1000000
    small true = omega arith
    small false = omega arith

-- ---- a sheet's belts

pub flows_length : (ns : List Node) → length (flows_of ns) ≡ count_by is_belt ns
flows_length ns = length-map-range_with_len (flow_of ns) 0 (count_by is_belt ns)

-- accepted past the limits of the forms
pub derived_found : (K : Kind) (ns : List Node) (balances : List (List ℤ)) → derived K ns ≡ Ok balances → balances_of K (flows_of ns) ≡ Ok balances
derived_found K ns balances e = (then_ok (limits ns) (λ _. balances_of K (flows_of ns)) balances e).2

-- ---- the sum over quantities of sums over rows is the sum over rows of sums over quantities

comes_none : (n : ℕ) (w : ℕ → ℤ) → comes_to n w (λ b. pos 0) ≡ pos 0
comes_none zero w = refl
comes_none (suc n) w = ap₂ (λ (x y : ℤ). x +ℤ y) (*ℤ-zero (w zero)) (comes_none n (λ b. w (suc b)))

comes_more : (n : ℕ) (w f g : ℕ → ℤ) → comes_to n w (λ b. f b +ℤ g b) ≡ comes_to n w f +ℤ comes_to n w g
comes_more zero w f g = refl
comes_more (suc n) w f g =
    let x = mul_sum (w zero) (f zero) (g zero) in
    let y = comes_more n (λ b. w (suc b)) (λ b. f (suc b)) (λ b. g (suc b)) in
    omega (arith, ints)

pub comes_same : (n : ℕ) (w f g : ℕ → ℤ) → ((b : ℕ) → b < n → f b ≡ g b) → comes_to n w f ≡ comes_to n w g
comes_same zero w f g h = refl
comes_same (suc n) w f g h =
    ap₂ (λ (x y : ℤ). w zero *ℤ x +ℤ y) (h zero (omega arith)) (comes_same n (λ b. w (suc b)) (λ b. f (suc b)) (λ b. g (suc b)) (λ b l. h (suc b) (omega arith)))

pub by_rows : (n : ℕ) (w : ℕ → ℤ) (gains : List Bool → ℕ → ℤ) (rows : List (List Bool))
    → comes_to n w (λ b. over_rows (λ row. gains row b) rows) ≡ over_rows (λ row. comes_to n w (gains row)) rows
by_rows n w gains [] = comes_none n w
by_rows n w gains (row ∷ rows) =
    comes_more n w (gains row) (λ b. over_rows (λ row. gains row b) rows) ∙ ap (λ (x : ℤ). comes_to n w (gains row) +ℤ x) (by_rows n w gains rows)

-- a weighting that stays zero comes to zero over counts that are sums of gains
pub over_counts : (Z : ℤ → Type 0) (n : ℕ) (w : ℕ → ℤ) (gains : List Bool → ℕ → ℤ) → StaysZero Z n gains w
    → (rows : List (List Bool)) (count : ℕ → ℤ) → ((b : ℕ) → b < n → count b ≡ over_rows (λ row. gains row b) rows) → Z (comes_to n w count)
over_counts Z n w gains h rows count k =
    subst Z (sym (comes_same n w count (λ b. over_rows (λ row. gains row b) rows) k ∙ by_rows n w gains rows)) (h rows)

module _ {K : Kind} {Z : ℤ → Type 0} (C : CountsZero K Z) (ns : List Node) (balances : List (List ℤ)) (e : derived K ns ≡ Ok balances) where
  -- the balances of a sheet's belts are complete
  pub derived_complete : Complete Z (count_by is_belt ns) (gain ns) balances
  derived_complete =
      subst (λ (n : ℕ). Complete Z n (gain ns) balances) (flows_length ns) (balances_complete C (flows_of ns) (gain ns) (flows_count ns) balances (derived_found K ns balances e))

  -- the first nonzero weight of each is above zero
  pub derived_signed : AllLeadAbove balances
  derived_signed = balances_signed C (flows_of ns) balances (derived_found K ns balances e)

  -- each balance comes to zero over counts that are sums of gains
  pub derived_over_counts : (rows : List (List Bool)) (count : ℕ → ℤ) → ((b : ℕ) → b < count_by is_belt ns → count b ≡ over_rows (λ row. gain ns row b) rows)
      → AllByRecursion (λ u. Z (comes_to (count_by is_belt ns) (weighting u) count)) balances
  derived_over_counts rows count k =
      All-weaker (λ u. StaysZero Z (count_by is_belt ns) (gain ns) (weighting u)) (λ u. Z (comes_to (count_by is_belt ns) (weighting u) count))
      (λ u h. over_counts Z (count_by is_belt ns) (weighting u) (gain ns) h rows count k) balances derived_complete.zeros
