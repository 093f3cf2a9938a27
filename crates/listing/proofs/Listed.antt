-- From what derivation wrote and what printing made of it to the list of a sheet's balances.
use Rattle.std.proofs.Common.{◌≡◌, ℕ, zero, suc, ◌*◌, ◌≤◌, Bool, true, false, ltb, List, [], ◌∷◌, ◌++◌, map, length, take, drop, ℤ, slice_index_or, Some, Ok, Err, count_by, Result, nat_abs, sym, refl, ap, ◌∙◌, ap₂, arith, mul_comm}
use Rattle.std.specs.List.{list_any, range_with_len, flat_map, AllByRecursion}
use Rattle.std.proofs.lemmas.Bool.{le-ltb, or_from}
use Rattle.std.proofs.lemmas.List.{append-nil, length-append, take_at}
use Rattle.std.proofs.lemmas.List.Elements.{All-from_recursion}
use Rattle.std.proofs.lemmas.List.Folds.{list_any-append, list_any_none}
use Rattle.sheet.specs.declared.node.Node.{Node}
use Rattle.sheet.specs.declared.fault.Fault.{Fault}
use Rattle.sheet.specs.declared.fault.Refusal.TheVariants.{ShortWeights}
use Rattle.sheet.specs.Nodes.{is_belt}
use Rattle.sheet.specs.Outcomes.{Outcome, written}
use Rattle.sheet.specs.Refusals.{and_then, refuse_if}
use Rattle.sheet.proofs.Refusals.{ok_err}
use Rattle.kinds.specs.Kinds.{wholes}
use Rattle.elimination.specs.Memory as E
use Rattle.flows.specs.Completeness.{Zero, Complete, gain}
use Rattle.flows.specs.Derivation.{derived, derive}
use Rattle.flows.proofs.Derived.{wholes_count, derived_complete}
use Rattle.derivation.proofs.Deriving.{length_joined, rows_back}
use Rattle.printing.specs.Printing.{line_of, name_of, rows_of, row_text, is_large, list_unfit, list_text}
use Rattle.printing.specs.Reading.{reading, listed}
use Rattle.printing.proofs.Sizes.{fits, names_room, rows_room}
use Rattle.listing.specs.Listing.{list_of_nodes}
use Rattle.listing.specs.Truth.{Tells}

abbrev joined : {A : Type 0} → List (List A) → List A
joined rows = flat_map (λ r. r) rows

-- rows are cut alike by printing and by elimination
same_rows : (n k : ℕ) (xs : List ℤ) → rows_of n k xs ≡ E.rows_of k n xs
same_rows n zero xs = refl
same_rows n (suc k) xs = ap (λ rows. take n xs ∷ rows) (same_rows n k (drop n xs))

-- none of some rows' weights is large, if each is within the limit
none_large : (row rest : List ℤ) → AllByRecursion (λ x. nat_abs x ≤ 1000000) row → list_any is_large rest ≡ false → list_any is_large (row ++ rest) ≡ false
none_large row rest h e =
    list_any-append is_large row rest
    ∙ or_from _ _ (list_any_none is_large row (λ k d l. le-ltb 1000000 (nat_abs (slice_index_or row k d)) (All-from_recursion (λ x. nat_abs x ≤ 1000000) row h k d l))) e

none_in_rows : (rows : List (List ℤ)) → AllByRecursion (AllByRecursion (λ x. nat_abs x ≤ 1000000)) rows → list_any is_large (joined rows) ≡ false
none_in_rows [] h = refl
none_in_rows (r ∷ rows) h = none_large r (joined rows) h.0 (none_in_rows rows h.1)

-- what a derivation found: the balances, how many they are, and where they stand
pub record Found (ns : List Node) (k : ℕ) (after : List ℤ) : Type 0 where
  pub balances : List (List ℤ)
  pub derives : derived wholes ns ≡ Ok balances
  pub many : k ≡ length balances
  pub rest : List ℤ
  pub stand : after ≡ joined balances ++ rest

pub found : (ns : List Node) (weights after : List ℤ) (k : ℕ) → ◌≡◌ {A = Outcome ℕ ℤ} (record { answer = Ok k; memory = after }) (derive wholes ns weights) → Found ns k after
found ns weights after k e = by (ltb (length weights) (count_by is_belt ns * count_by is_belt ns)) (derived wholes ns) refl (ap (λ o. o.answer) e) (ap (λ o. o.memory) e)
  where
    by : (short : Bool) (d : Result (List (List ℤ)) Fault) → derived wholes ns ≡ d
        → Ok k ≡ (written length joined (refuse_if short ShortWeights 0 d) weights).answer
        → after ≡ (written length joined (refuse_if short ShortWeights 0 d) weights).memory → Found ns k after
    by true d f g m = absurd (ok_err g)
    by false (Err x) f g m = absurd (ok_err g)
    by false (Ok bs) f g m = record { balances = bs; derives = f; many = cc; rest = drop (length (joined bs)) weights; stand = m }

-- ---- the balances that were found, printed

module _ (ns : List Node) (k : ℕ) (after : List ℤ) (f : Found ns k after) (few : count_by is_belt ns ≤ 32) where
  abbrev n : ℕ
  n = count_by is_belt ns

  pub complete : Complete Zero n (gain ns) f.balances
  complete = derived_complete wholes_count ns f.balances f.derives

  size : length (joined f.balances) ≡ n * k
  size = length_joined n f.balances complete.sized ∙ mul_comm (length f.balances) n ∙ ap (λ j. n * j) (sym f.many)

  -- they are printed as the rows that they are, whatever follows
  pub rows_found : rows_of n k after ≡ f.balances
  rows_found = ap₂ (rows_of n) f.many f.stand ∙ same_rows n (length f.balances) (joined f.balances ++ f.rest) ∙ rows_back n f.balances f.rest complete.sized

  rows_alone : rows_of n (length f.balances) (joined f.balances) ≡ f.balances
  rows_alone =
      let all = joined f.balances in
      ap (rows_of n (length f.balances)) (sym (append-nil all)) ∙ same_rows n (length f.balances) (all ++ []) ∙ rows_back n f.balances [] complete.sized

  fit : list_unfit n k after ≡ false
  fit =
      let large : list_any is_large (take (n * k) after) ≡ false = ap (λ xs. list_any is_large (take (n * k) xs)) f.stand ∙ ap (list_any is_large) (take_at (joined f.balances) f.rest (n * k) size) ∙ none_in_rows f.balances complete.small in
      or_from _ _ (le-ltb 32 n few)
      (or_from _ _ (le-ltb 32 k (omega (arith, f.many, complete.few, few)))
      (or_from _ _ (le-ltb (length after) (n * k) (omega (arith, ap length f.stand, length-append (joined f.balances) f.rest, size))) large))

  list_found : list_of_nodes ns ≡ Ok (list_text n k after)
  list_found =
      let names = line_of (map name_of (range_with_len 0 n)) in
      ap (λ r. and_then r (λ bs. Ok (list_text n (length bs) (joined bs)))) f.derives
      ∙ ap (λ rows. Ok (names ++ flat_map row_text rows)) (rows_alone ∙ sym rows_found)

  -- so many belts are those of the nodes
  module _ (belts : ℕ) (e : belts ≡ n) where
    pub fit_of : list_unfit belts k after ≡ false
    fit_of = ap (λ j. list_unfit j k after) e ∙ fit

    pub list : list_of_nodes ns ≡ Ok (list_text belts k after)
    list = list_found ∙ ap (λ j. Ok (list_text j k after)) (sym e)

    pub short : length (list_text belts k after) ≤ 9504
    short =
        let f = fits belts k after fit_of in
        omega (arith, length-append (line_of (map name_of (range_with_len 0 belts))) (flat_map row_text (rows_of belts k after)), names_room belts k after f, rows_room belts k after f)

    pub tells : (bytes : List ℕ) → reading bytes ≡ listed belts k after → Tells ns bytes
    tells bytes h = record {
      balances = f.balances;
      reads = h ∙ ap (λ i. listed i k after) e ∙ ap (λ rows. record { names = map Some (range_with_len 0 n); rows = map (map Some) rows }) rows_found;
      complete = complete;
    }
