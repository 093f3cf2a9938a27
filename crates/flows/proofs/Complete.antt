-- From rows to columns and back, and with elimination's theorem: balances of flows are complete, over any kind of number.
use Rattle.std.proofs.Common.{◌≡◌, ℕ, zero, suc, ◌<◌, ◌≤◌, Bool, true, false, ltb, ◌↔◌, List, [], ◌∷◌, map, length, get_or, ℤ, pos, ◌+ℤ◌, ◌-ℤ◌, ◌*ℤ◌, neg_ℤ, nat_abs, Ok, Err, Result, sym, refl, ap, ◌∙◌, subst, ap₂, arith}
use lib.IntN.{+ℤ_idr}
use Rattle.std.specs.List.{AllByRecursion}
use Rattle.std.proofs.lemmas.List.{length-map, get_or-map}
use Rattle.std.proofs.ByRecursion.{All-get_or, All-from_get_or, All-weaker, All-map}
use Rattle.std.proofs.lemmas.Bool.{or_parts}
use Rattle.sheet.specs.declared.fault.Refusal.TheVariants.{ManyColumns}
use Rattle.sheet.specs.Refusals.{refuse_if}
use Rattle.sheet.proofs.Refusals.{ok_err}
use Rattle.terms.specs.Forms.{Form, value, row_of}
use Rattle.terms.proofs.Canon.{some_row}
use Rattle.kinds.specs.Kinds.{Kind, Lawful, past, wholes}
use Rattle.kinds.specs.Elimination.{at, any_past, eliminate}
use Rattle.kinds.specs.Completeness.{comb, Vanishes, Made as MadeIn, LeadsAbove}
use Rattle.kinds.proofs.Ring.{zero_add, counts_zero, counts_neg, neg_unique, neg_neg}
use Rattle.kinds.proofs.Comb.{comb_same}
use Rattle.kinds.proofs.Arrival.{sound, exactly, shaped, signed}
use Rattle.flows.specs.Columns.{columns_of, coefficient, table}
use Rattle.flows.specs.Derivation.{as_written, balances_of}
use Rattle.flows.specs.Completeness.{comes_to, weighting, StaysZero, Made, Complete, Counting, BalancesAreComplete, AllLeadAbove}
use Rattle.flows.proofs.Listed.{Climbs, Covered, columns_climb, columns_cover}
use Rattle.flows.proofs.Spread.{spread, Ideal, spread_from, spread_back, spread_sum, spread_scale, spread_none, value_spread}

-- ---- a weighting in a column, and in a row

-- what a weighting of flows comes to in a column
abbrev pub column : (ℕ → ℤ) → List Form → ℕ → ℤ
column w [] c = pos 0
column w (p ∷ ps) c = w zero *ℤ coefficient p c +ℤ column (λ b. w (suc b)) ps c

-- in a row, it comes to the sum over the columns
comes_spread : (cs : List ℕ) (flows : List Form) (w amount : ℕ → ℤ) (r : ℕ) → Climbs 0 cs → AllByRecursion (Covered cs) flows
    → ((b : ℕ) → b < length flows → value (get_or flows b []) r ≡ amount b) → comes_to (length flows) w amount ≡ spread (column w flows) cs r
comes_spread cs [] w amount r c h k = sym (spread_none cs r)
comes_spread cs (p ∷ ps) w amount r c h k =
    let more : ℕ → ℤ = λ b. w (suc b) in
    ap₂ (λ (x y : ℤ). w zero *ℤ x +ℤ y)
    (sym (k zero (omega arith)) ∙ value_spread 0 cs p r c h.0)
    (comes_spread cs ps more (λ b. amount (suc b)) r c h.1 (λ b l. k (suc b) (omega arith)))
    ∙ sym (spread_sum (λ c. w zero *ℤ coefficient p c) (column more ps) cs r
    ∙ ap (λ (x : ℤ). x +ℤ spread (column more ps) cs r) (spread_scale (w zero) (coefficient p) cs r))

-- rows of any free wire values against columns
module _ {Z : ℤ → Type 0} (N : Ideal Z) (flows : List Form) (gains : List Bool → ℕ → ℤ) (count : Counting flows gains) (w : ℕ → ℤ) where
  as_spread : (row : List Bool) → comes_to (length flows) w (gains row) ≡ spread (column w flows) (columns_of flows) (row_of row)
  as_spread row = comes_spread (columns_of flows) flows w (gains row) (row_of row) (columns_climb flows) (columns_cover flows) (λ b l. count b l row)

  in_row : StaysZero Z (length flows) gains w → (r : ℕ) → Z (spread (column w flows) (columns_of flows) r)
  in_row h r =
      let s = some_row r in
      subst Z (+ℤ_idr _ ∙ as_spread s.0 ∙ ap (spread (column w flows) (columns_of flows)) s.1) (h (s.0 ∷ []))

  pub to_columns : StaysZero Z (length flows) gains w → AllByRecursion (λ c. Z (column w flows c)) (columns_of flows)
  to_columns h = spread_back N (column w flows) 0 (columns_of flows) (columns_climb flows) (in_row h)

  pub to_rows : AllByRecursion (λ c. Z (column w flows c)) (columns_of flows) → StaysZero Z (length flows) gains w
  to_rows h [] = N.none
  to_rows h (row ∷ rows) = N.both _ _ (subst Z (sym (as_spread row)) (spread_from N (column w flows) (columns_of flows) (row_of row) h)) (to_rows h rows)

-- ---- an accepted derivation is what elimination found, as it is written

-- the weights that elimination gives, and that the balances are these, written
pub record Found (K : Kind) (flows : List Form) (balances : List (List ℤ)) : Type 0 where
  pub weights : List (List K.Num)
  pub eliminates : eliminate K (length (columns_of flows)) (map (map K.counts) (table flows)) ≡ Ok weights
  pub written : balances ≡ map (map K.writes) weights

pub balances_found : (K : Kind) (flows : List Form) (balances : List (List ℤ)) → balances_of K flows ≡ Ok balances → Found K flows balances
unfolding balances_of
balances_found K flows balances e = go (ltb 256 (length (columns_of flows))) (eliminate K (length (columns_of flows)) (map (map K.counts) (table flows))) refl e
  where
    go : (t : Bool) (r : Result (List (List K.Num)) ℕ) → eliminate K (length (columns_of flows)) (map (map K.counts) (table flows)) ≡ r
        → refuse_if t ManyColumns 0 (as_written K r) ≡ Ok balances → Found K flows balances
    go true r f h = absurd (ok_err (sym h))
    go false (Ok ws) f h = record { weights = ws; eliminates = f; written = cc }
    go false (Err b) f h = absurd (ok_err (sym h))

-- ---- a kind of number, and what counts as zero in it

pub record CountsZero (K : Kind) (Z : ℤ → Type 0) : Type 0 where
  pub lawful : Lawful K
  -- Z says of a whole number that it counts zero
  pub means : (x : ℤ) → Z x ↔ (K.counts x ≡ K.zero)
  -- a first nonzero number above zero is written so
  pub above : (w : List K.Num) → LeadsAbove K w → LeadsAbove wholes (map K.writes w)
  -- a number within the limit is written within 1,000,000 either way
  pub small : (x : K.Num) → past K x ≡ false → nat_abs (K.writes x) ≤ 1000000

module _ {K : Kind} {Z : ℤ → Type 0} (C : CountsZero K Z) where
  open K use {Num as A, zero as 𝟘, add as ◌⊕◌, mul as ◌⊗◌, neg as ⊖◌, counts, writes}

  infixl 6 ◌⊕◌
  infixl 7 ◌⊗◌
  infix 8 ⊖◌
  abbrev L : Lawful K
  L = C.lawful

  pub ideal : Ideal Z
  ideal = record {
    none = (C.means (pos 0)).1 (counts_zero L);
    both = λ x y h k. (C.means (x +ℤ y)).1 (L.counts_sum x y ∙ ap₂ (λ (a b : A). a ⊕ b) ((C.means x).0 h) ((C.means y).0 k) ∙ L.add_zero 𝟘);
    rest = λ x y h k. (C.means y).1 (sym (zero_add L (counts y)) ∙ ap (λ (a : A). a ⊕ counts y) (sym ((C.means x).0 h)) ∙ sym (L.counts_sum x y) ∙ (C.means (x +ℤ y)).0 k);
  }

  -- a difference counts zero exactly when both count the same
  counts_less : (x y : ℤ) → counts (x -ℤ y) ≡ counts x ⊕ (⊖ (counts y))
  counts_less x y = L.counts_sum x (neg_ℤ y) ∙ ap (λ (a : A). counts x ⊕ a) (counts_neg L y)

  pub zero_from : (x y : ℤ) → counts x ≡ counts y → Z (x -ℤ y)
  zero_from x y e = (C.means (x -ℤ y)).1 (counts_less x y ∙ ap (λ (a : A). a ⊕ (⊖ (counts y))) e ∙ L.add_neg (counts y))

  pub zero_back : (x y : ℤ) → Z (x -ℤ y) → counts x ≡ counts y
  zero_back x y h = neg_unique L (counts x) (⊖ (counts y)) (sym (counts_less x y) ∙ (C.means (x -ℤ y)).0 h) ∙ neg_neg L (counts y)

  -- a written row counts the row
  counts_row : (u : List A) (b : ℕ) → counts (weighting (map writes u) b) ≡ at K u b
  counts_row [] b = counts_zero L
  counts_row (x ∷ u) zero = L.counts_written x
  counts_row (x ∷ u) (suc b) = counts_row u b

  -- a sum of whole multiples of written balances counts the sum of the multiples of the balances
  counts_comb : (ws : List (List A)) (m : ℕ → ℤ) (b : ℕ) → let us = map (map writes) ws in
      counts (comes_to (length us) m (λ j. weighting (get_or us j []) b)) ≡ comb K (λ j. counts (m j)) ws b
  counts_comb [] m b = counts_zero L
  counts_comb (u ∷ ws) m b =
      L.counts_sum (m zero *ℤ weighting (map writes u) b) _
      ∙ ap₂ (λ (x y : A). x ⊕ y)
      (L.counts_product (m zero) (weighting (map writes u) b) ∙ ap (λ (x : A). counts (m zero) ⊗ x) (counts_row u b))
      (counts_comb ws (λ j. m (suc j)) b)

  -- a table's column counts the sum of its coefficients
  at_column : (cs : List ℕ) (p : Form) (j : ℕ) → j < length cs → at K (map counts (map (coefficient p) cs)) j ≡ counts (coefficient p (get_or cs j 0))
  at_column cs p j l =
      get_or-map counts (map (coefficient p) cs) j (pos 0) 𝟘 (omega (arith, length-map cs (coefficient p)))
      ∙ ap counts (get_or-map (coefficient p) cs j 0 (pos 0) l)

  comb_column : (cs : List ℕ) (ps : List Form) (w : ℕ → ℤ) (j : ℕ) → j < length cs
      → comb K (λ b. counts (w b)) (map (map counts) (map (λ p. map (coefficient p) cs) ps)) j ≡ counts (column w ps (get_or cs j 0))
  comb_column cs [] w j l = sym (counts_zero L)
  comb_column cs (p ∷ ps) w j l =
      ap₂ (λ (x y : A). counts (w zero) ⊗ x ⊕ y) (at_column cs p j l) (comb_column cs ps (λ b. w (suc b)) j l)
      ∙ sym (L.counts_sum (w zero *ℤ coefficient p (get_or cs j 0)) (column (λ b. w (suc b)) ps (get_or cs j 0))
      ∙ ap (λ (x : A). x ⊕ counts (column (λ b. w (suc b)) ps (get_or cs j 0))) (L.counts_product (w zero) (coefficient p (get_or cs j 0))))

  module _ (flows : List Form) (gains : List Bool → ℕ → ℤ) (count : Counting flows gains) where
    abbrev cs : List ℕ
    cs = columns_of flows

    abbrev rows : List (List A)
    rows = map (map counts) (table flows)

    rows_many : length rows ≡ length flows
    rows_many = length-map (table flows) (map counts) ∙ length-map flows (λ p. map (coefficient p) (columns_of flows))

    rows_full : AllByRecursion (λ f. length f ≡ length cs) rows
    rows_full =
        All-map (λ f. length f ≡ length cs) (map counts) (table flows)
        (All-map (λ f. length (map counts f) ≡ length cs) (λ p. map (coefficient p) cs) flows (full flows))
      where
        full : (ps : List Form) → AllByRecursion (λ p. length (map counts (map (coefficient p) cs)) ≡ length cs) ps
        full [] = tt
        full (p ∷ ps) = (length-map (map (coefficient p) cs) counts ∙ length-map cs (coefficient p), full ps)

    -- a weighting stays zero in rows exactly when it vanishes in columns
    pub vanishes : (w : ℕ → ℤ) → StaysZero Z (length flows) gains w → Vanishes K (length cs) rows (λ b. counts (w b))
    vanishes w h j l = comb_column cs flows w j l ∙ (C.means _).0 (All-get_or (λ c. Z (column w flows c)) cs j 0 l (to_columns ideal flows gains count w h))

    pub stays : (w : ℕ → ℤ) → Vanishes K (length cs) rows (λ b. counts (w b)) → StaysZero Z (length flows) gains w
    stays w v = to_rows ideal flows gains count w (All-from_get_or (λ c. Z (column w flows c)) cs 0 (λ j l. (C.means _).1 (sym (comb_column cs flows w j l) ∙ v j l)))

    module _ (ws : List (List A)) (e : eliminate K (length cs) rows ≡ Ok ws) where
      abbrev us : List (List ℤ)
      us = map (map writes) ws

      made_from : (w : ℕ → ℤ) → MadeIn K (length rows) ws (λ b. counts (w b)) → Made Z (length flows) us w
      made_from w m = record {
        factor = writes m.factor;
        nonzero = λ h. m.nonzero (sym (L.counts_written m.factor) ∙ (C.means _).0 h);
        multiples = λ j. writes (m.multiples j);
        sum = λ b l. zero_from _ _
            (L.counts_product (writes m.factor) (w b)
            ∙ ap (λ (x : A). x ⊗ counts (w b)) (L.counts_written m.factor)
            ∙ m.sum b (omega (arith, rows_many))
            ∙ sym (counts_comb ws (λ j. writes (m.multiples j)) b ∙ comb_same L (λ j. L.counts_written (m.multiples j)) ws b));
      }

      made_back : (w : ℕ → ℤ) → Made Z (length flows) us w → MadeIn K (length rows) ws (λ b. counts (w b))
      made_back w m = record {
        factor = counts m.factor;
        nonzero = λ h. m.nonzero ((C.means _).1 h);
        multiples = λ j. counts (m.multiples j);
        sum = λ b l. sym (L.counts_product m.factor (w b)) ∙ zero_back _ _ (m.sum b (omega (arith, rows_many))) ∙ counts_comb ws m.multiples b;
      }

      small_row : (u : List A) → any_past K u ≡ false → AllByRecursion (λ x. nat_abs x ≤ 1000000) (map writes u)
      small_row [] h = tt
      small_row (x ∷ u) h = let p = or_parts (past K x) (any_past K u) h in (C.small x p.0, small_row u p.1)

      complete_of : Complete Z (length flows) gains us
      complete_of =
          let s = shaped L (length cs) rows ws rows_full e in
          record {
            few = omega (arith, s.1, rows_many, length-map ws (map writes));
            sized = All-map _ (map writes) ws (All-weaker _ _ (λ u h. length-map u writes ∙ h.0 ∙ rows_many) ws s.0);
            small = All-map _ (map writes) ws (All-weaker _ _ (λ u h. small_row u h.1) ws s.0);
            zeros = All-map _ (map writes) ws
                (All-weaker _ _ (λ u v. stays (weighting (map writes u)) (λ j l. comb_same L (counts_row u) rows j ∙ v j l)) ws (sound L (length cs) rows ws e));
            exactly = λ w. let x = exactly L (length cs) rows ws e (λ b. counts (w b)) in
                ((λ h. made_from w (x.0 (vanishes w h))), (λ m. stays w (x.1 (made_back w m))));
          }

  -- of any quantities, counted by their flows, the balances are complete
  pub balances_complete : BalancesAreComplete K Z
  balances_complete flows gains count balances e =
      let f = balances_found K flows balances e in
      subst (Complete Z (length flows) gains) (sym f.written) (complete_of flows gains count f.weights f.eliminates)

  -- and the first nonzero weight of each is above zero
  pub balances_signed : (flows : List Form) (balances : List (List ℤ)) → balances_of K flows ≡ Ok balances → AllLeadAbove balances
  balances_signed flows balances e =
      let f = balances_found K flows balances e in
      subst AllLeadAbove (sym f.written)
      (All-map _ (map writes) f.weights (All-weaker _ _ C.above f.weights (signed L (length (columns_of flows)) (map (map counts) (table flows)) f.weights f.eliminates)))
