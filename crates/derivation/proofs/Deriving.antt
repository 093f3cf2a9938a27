-- From a table and its elimination to what derivation answers and writes.
use Rattle.std.proofs.Common.{◌≡◌, ℕ, suc, ◌+◌, ◌*◌, ◌<◌, ◌≤◌, Bool, true, false, cond, ltb, List, [], ◌∷◌, ◌++◌, map, length, drop, ℤ, IfOk, Some, None, Ok, Err, count_by, Option, Result, sym, refl, ap, ◌∙◌, subst, ap₂, suc-mul, zero-mul, arith}
use Rattle.std.specs.Prelude.{IfErr}
use Rattle.std.specs.List.{flat_map, AllByRecursion}
use Rattle.std.proofs.lemmas.List.{append_assoc, append-nil, map-append, length-append, length-map, take_at, drop_at}
use Rattle.std.proofs.lemmas.List.Folds.{flat_map-map}
use Rattle.std.proofs.lemmas.Bool.{and_from, le-leb, ltb-false, eq-eqb}
use Rattle.sheet.specs.declared.node.Node.{Node}
use Rattle.sheet.specs.declared.fault.Fault.{Fault}
use Rattle.sheet.specs.declared.fault.Refusal.TheVariants.{ShortWeights, ManyColumns}
use Rattle.sheet.specs.Nodes.{is_belt}
use Rattle.sheet.specs.Outcomes.{Outcome, written}
use Rattle.sheet.specs.Refusals.{and_then, refuse_if, IsOneOf, derive_numbers}
use Rattle.sheet.proofs.Numbers.{Within, if_within, written_within}
use Rattle.sheet.proofs.Refusals.{ok_err, passed_if}
use Rattle.terms.specs.Forms.{Form}
use Rattle.forms.specs.Gates.{limits}
use Rattle.kinds.specs.Kinds.{Kind}
use Rattle.std.specs.Option.{option_map_or}
use Rattle.kinds.specs.Elimination.{State, any_past, handled, added, eliminated, eliminate, starts}
use Rattle.elimination.specs.declared.solve.EliminationError.{EliminationError}
use Rattle.elimination.specs.Memory.{rows_of}
use Rattle.elimination.specs.Answers.{sizes_fit, answered, solved}
use Rattle.elimination.proofs.Written.{solved_fit}
use Rattle.flows.specs.Columns.{columns_of, coefficient, table}
use Rattle.flows.specs.Flows.{flows_of}
use Rattle.flows.specs.Derivation.{as_written, balances_of, derived, derive}
use Rattle.flows.specs.Completeness.{Complete, gain, AllLeadAbove}
use Rattle.flows.proofs.Complete.{CountsZero}
use Rattle.flows.proofs.Derived.{flows_length, derived_complete, derived_signed}
use Rattle.flows.proofs.Numbered.{derived_within}
use Rattle.derivation.specs.declared.table.Table.{Table}
use Rattle.derivation.specs.Tables.{rows_in, tested, tested_first, Tabled, Tabulated, by_belt, Rowed}

-- ---- rows of m numbers, one after another

pub length_joined : {A : Type 0} (m : ℕ) (rows : List (List A)) → AllByRecursion (λ r. length r ≡ m) rows → length (flat_map (λ r. r) rows) ≡ length rows * m
length_joined m [] h = sym (zero-mul m)
length_joined m (r ∷ rows) h = length-append r (flat_map (λ s. s) rows) ∙ omega (arith, h.0, length_joined m rows h.1, suc-mul (length rows) m)

-- they are read back as they are, whatever follows
pub rows_back : {A : Type 0} (m : ℕ) (rows : List (List A)) (rest : List A) → AllByRecursion (λ r. length r ≡ m) rows → rows_of (length rows) m (flat_map (λ r. r) rows ++ rest) ≡ rows
rows_back m [] rest h = refl
rows_back m (r ∷ rows) rest h =
    let more = flat_map (λ s. s) rows ++ rest in
    ap (rows_of (suc (length rows)) m) (append_assoc r (flat_map (λ s. s) rows) rest)
    ∙ ap₂ (λ x y. x ∷ rows_of (length rows) m y) (take_at r more m h.0) (drop_at r more m h.0)
    ∙ ap (λ rs. r ∷ rs) (rows_back m rows rest h.1)

map_joined : {A B : Type 0} (f : A → B) (rows : List (List A)) → map f (flat_map (λ r. r) rows) ≡ flat_map (λ r. r) (map (map f) rows)
map_joined f [] = refl
map_joined f (r ∷ rows) = map-append f r (flat_map (λ s. s) rows) ∙ ap (λ zs. map f r ++ zs) (map_joined f rows)

long_mapped : {A B : Type 0} (f : A → B) (m : ℕ) (rows : List (List A)) → AllByRecursion (λ r. length r ≡ m) rows → AllByRecursion (λ r. length r ≡ m) (map (map f) rows)
long_mapped f m [] h = tt
long_mapped f m (r ∷ rows) h = (length-map r f ∙ h.0, long_mapped f m rows h.1)

-- ---- a row that is named is one of them

module _ (K : Kind) where
  length_starts : (n b : ℕ) (fs : List (List K.Num)) → length (starts K n b fs) ≡ length fs
  length_starts n b [] = refl
  length_starts n b (f ∷ fs) = ap suc (length_starts n (suc b) fs)

  named : (n m : ℕ) (s : State K.Num) (b e : ℕ) (rs : List (List K.Num)) → eliminated K n m s b rs ≡ Err e → e < b + length rs
  unfolding eliminated
  named n m s b e [] h = absurd (ok_err h)
  named n m s b e (r ∷ rs) h = by (any_past K r) (added K n s (handled K n s.rows m 0 r)) (λ more. named n m more (suc b) e rs) h
    where
      same : {A : Type 0} → ◌≡◌ {A = Result A ℕ} (Err b) (Err e) → b ≡ e
      same h = cc

      by : (past : Bool) (o : Option (State K.Num)) → ((more : State K.Num) → eliminated K n m more (suc b) rs ≡ Err e → e < suc b + length rs)
          → cond past (Err b) (option_map_or (λ more. eliminated K n m more (suc b) rs) o (Err b)) ≡ Err e → e < b + suc (length rs)
      by true o ih h = omega (arith, same h)
      by false None ih h = omega (arith, same h)
      by false (Some more) ih h = omega (arith, ih more h)

  named_row : (m e : ℕ) (fs : List (List K.Num)) → eliminate K m fs ≡ Err e → e < length fs
  unfolding eliminate
  named_row m e fs h = omega (arith, named (length fs) m _ 0 e (starts K (length fs) 0 fs) h, length_starts (length fs) 0 fs)

-- ---- derivation, after its tests

-- what is left to do once the tests have passed, and what a test that fails answers
module _ (K : Kind) (ns : List Node) (weights : List ℤ) where
  abbrev rows : List (List ℤ)
  rows = table (flows_of ns)

  abbrev solution : Result (List (List K.Num)) ℕ
  solution = eliminate K (length (columns_of (flows_of ns))) (map (map K.counts) rows)

  by_tests : refuse_if (ltb (length weights) (count_by is_belt ns * count_by is_belt ns)) ShortWeights 0 (derived K ns) ≡ and_then (tested_first ns (length weights)) (λ _. as_written K solution)
  unfolding balances_of
  by_tests = by (ltb (length weights) (count_by is_belt ns * count_by is_belt ns)) (limits ns) (ltb 256 (length (columns_of (flows_of ns))))
    where
      by : (short : Bool) (l : Result ℕ Fault) (many : Bool)
          → refuse_if short ShortWeights 0 (and_then l (λ _. refuse_if many ManyColumns 0 (as_written K solution)))
          ≡ and_then (refuse_if short ShortWeights 0 (and_then l (λ _. refuse_if many ManyColumns 0 (Ok (tt {0}))))) (λ _. as_written K solution)
      by true l many = refl
      by false (Err e) many = refl
      by false (Ok n) true = refl
      by false (Ok n) false = refl

  -- a test that fails is told, and nothing changes
  pub refused : (e : Fault) → tested_first ns (length weights) ≡ Err e → ◌≡◌ {A = Outcome ℕ ℤ} (record { answer = Err e; memory = weights }) (derive K ns weights)
  refused e h = sym (ap (λ r. written length (flat_map (λ w. w)) r weights) (by_tests ∙ ap (λ r. and_then r (λ _. as_written K solution)) h))

  -- the tests have passed
  module _ (h : tested_first ns (length weights) ≡ Ok tt) where
    derivation : derive K ns weights ≡ written length (flat_map (λ w. w)) (as_written K solution) weights
    derivation = ap (λ r. written length (flat_map (λ w. w)) r weights) (by_tests ∙ ap (λ r. and_then r (λ _. as_written K solution)) h)

    -- an elimination's answer, with a row past the limit named by its belt, is that of derivation
    as_derived : (x : Result (List (List K.Num)) ℕ) → solution ≡ x → (r : Result ℕ EliminationError × List ℤ) → r ≡ answered K weights x
        → ◌≡◌ {A = Outcome ℕ ℤ} (record { answer = by_belt r.0; memory = r.1 }) (derive K ns weights)
    as_derived (Ok ws) e r f =
        let same = flat_map-map (λ w. w) (map K.writes) ws in
        ap (λ p. record { answer = by_belt p.0; memory = p.1 }) f
        ∙ sym (derivation ∙ ap (λ y. written length (flat_map (λ w. w)) (as_written K y) weights) e
        ∙ ap₂ (λ k zs. record { answer = Ok k; memory = zs ++ drop (length zs) weights }) (length-map ws (map K.writes)) same)
    as_derived (Err b) e r f =
        ap (λ p. record { answer = by_belt p.0; memory = p.1 }) f ∙ sym (derivation ∙ ap (λ y. written length (flat_map (λ w. w)) (as_written K y) weights) e)

    module _ (t : Table) (tab : Tabled ns t) where
      long : (flows : List Form) → AllByRecursion (λ r. length r ≡ t.columns) (map (λ p. map (coefficient p) (columns_of (flows_of ns))) flows)
      long [] = tt
      long (p ∷ flows) = (length-map (columns_of (flows_of ns)) (coefficient p) ∙ sym tab.columns, long flows)

      many : length rows ≡ t.belts
      many = length-map (flows_of ns) (λ p. map (coefficient p) (columns_of (flows_of ns))) ∙ flows_length ns ∙ sym tab.belts

      full : length (rows_in t) ≡ t.belts * t.columns
      full = ap length tab.rows ∙ length_joined t.columns rows (long (flows_of ns)) ∙ ap (λ n. n * t.columns) many

      same_rows : rows_of t.belts t.columns (map K.counts (rows_in t)) ≡ map (map K.counts) rows
      same_rows =
          let counted = map (map K.counts) rows in
          ap₂ (λ n xs. rows_of n t.columns xs) (sym many ∙ sym (length-map rows (map K.counts))) (ap (map K.counts) tab.rows ∙ map_joined K.counts rows ∙ sym (append-nil (flat_map (λ r. r) counted)))
          ∙ rows_back t.columns counted [] (long_mapped K.counts t.columns rows (long (flows_of ns)))

      room : count_by is_belt ns * count_by is_belt ns ≤ length weights
      room = ltb-false (length weights) (count_by is_belt ns * count_by is_belt ns) (passed_if _ ShortWeights 0 (tested ns) h).0

      fits : sizes_fit t.belts t.columns (length (rows_in t)) (length weights) ≡ true
      fits =
          and_from _ _ (and_from _ _ (and_from _ _ (le-leb t.belts 32 t.few) (le-leb t.columns 256 t.most)) (eq-eqb (length (rows_in t)) (t.belts * t.columns) full))
          (le-leb (t.belts * t.belts) (length weights) (rw tab.belts room))

      answer_is : (r : Result ℕ EliminationError × List ℤ) → r ≡ solved K t.belts t.columns (rows_in t) weights → r ≡ answered K weights solution
      answer_is r e =
          e ∙ sym (solved_fit K t.belts t.columns (rows_in t) weights (sym fits)) ∙ ap (answered K weights) (ap₂ (eliminate K) tab.columns same_rows)

      outcome : (r : Result ℕ EliminationError × List ℤ) → r ≡ solved K t.belts t.columns (rows_in t) weights
          → ◌≡◌ {A = Outcome ℕ ℤ} (record { answer = by_belt r.0; memory = r.1 }) (derive K ns weights)
      outcome r e = as_derived solution refl r (answer_is r e)

      rowed : (r : Result ℕ EliminationError × List ℤ) → r ≡ solved K t.belts t.columns (rows_in t) weights → Rowed r.0
      rowed r e = subst (λ x. Rowed x.0) (sym (answer_is r e)) (by solution refl)
        where
          by : (x : Result (List (List K.Num)) ℕ) → solution ≡ x → Rowed (answered K weights x).0
          by (Ok ws) f = tt
          by (Err b) f = omega (arith, named_row K (length (columns_of (flows_of ns))) b (map (map K.counts) rows) f, length-map rows (map K.counts), many, t.few)

-- ---- what derivation writes
module _ (K : Kind) (ns : List Node) (weights after : List ℤ) where
  abbrev n : ℕ
  n = count_by is_belt ns

  -- what holds of derived balances, with a weight for each belt, holds of the balances that are written
  read_back : (P : List (List ℤ) → Type 0) → ((us : List (List ℤ)) → derived K ns ≡ Ok us → AllByRecursion (λ u. length u ≡ n) us × P us)
      → (r : Result ℕ Fault) → ◌≡◌ {A = Outcome ℕ ℤ} (record { answer = r; memory = after }) (derive K ns weights) → IfOk r (λ k. P (rows_of k n after))
  read_back P all r e = by (ltb (length weights) (n * n)) (derived K ns) refl (ap (λ o. o.answer) e) (ap (λ o. o.memory) e)
    where
      by : (short : Bool) (d : Result (List (List ℤ)) Fault) → derived K ns ≡ d
          → r ≡ (written length (flat_map (λ w. w)) (refuse_if short ShortWeights 0 d) weights).answer
          → after ≡ (written length (flat_map (λ w. w)) (refuse_if short ShortWeights 0 d) weights).memory
          → IfOk r (λ k. P (rows_of k n after))
      by true d f g m = rw g tt
      by false (Err x) f g m = rw g tt
      by false (Ok balances) f g m =
          let h = all balances f in
          rw g (subst P (sym (ap (rows_of (length balances) n) m ∙ rows_back n balances (drop (length (flat_map (λ w. w) balances)) weights) h.0)) h.1)

module _ {K : Kind} {Z : ℤ → Type 0} (C : CountsZero K Z) (ns : List Node) (weights after : List ℤ) where
  -- it is complete
  pub complete : (r : Result ℕ Fault) → ◌≡◌ {A = Outcome ℕ ℤ} (record { answer = r; memory = after }) (derive K ns weights) → IfOk r (λ k. Complete Z (count_by is_belt ns) (gain ns) (rows_of k (count_by is_belt ns) after))
  complete = read_back K ns weights after (Complete Z (count_by is_belt ns) (gain ns)) (λ us f. let all = derived_complete C ns us f in (all.sized, all))

  -- and each balance has its first nonzero weight above zero
  pub signed : (r : Result ℕ Fault) → ◌≡◌ {A = Outcome ℕ ℤ} (record { answer = r; memory = after }) (derive K ns weights) → IfOk r (λ k. AllLeadAbove (rows_of k (count_by is_belt ns) after))
  signed = read_back K ns weights after AllLeadAbove (λ us f. ((derived_complete C ns us f).sized, derived_signed C ns us f))

-- ---- the numbers with which it may refuse
module _ (K : Kind) (ns : List Node) (weights after : List ℤ) where
  answer_within : Within derive_numbers (derive K ns weights).answer
  answer_within =
      written_within derive_numbers length (flat_map (λ w. w)) (refuse_if (ltb (length weights) (count_by is_belt ns * count_by is_belt ns)) ShortWeights 0 (derived K ns)) weights
      (if_within derive_numbers (ltb (length weights) (count_by is_belt ns * count_by is_belt ns)) ShortWeights 0 (derived K ns) (0, omega arith, refl)
      (derived_within derive_numbers (1, omega arith, refl) (2, omega arith, refl) (3, omega arith, refl) (4, omega arith, refl) (5, omega arith, refl) K ns))

  pub within : (r : Result ℕ Fault) → ◌≡◌ {A = Outcome ℕ ℤ} (record { answer = r; memory = after }) (derive K ns weights) → IfErr r (IsOneOf derive_numbers)
  within r e = subst (Within derive_numbers) (sym (ap (λ o. o.answer) e)) answer_within

-- an elimination of the rows xs of a sheet's table, as a call has it: what is told and written is derivation's
module _ (K : Kind) (ns : List Node) (weights : List ℤ) (t : Table) (tab : Tabulated ns (length weights) t)
    (xs after : List ℤ) (same : xs ≡ rows_in t) (r : Result ℕ EliminationError) (solves : (r, after) ≡ solved K t.belts t.columns xs weights) where
  of_table : (r, after) ≡ solved K t.belts t.columns (rows_in t) weights
  of_table = solves ∙ ap (λ ys. solved K t.belts t.columns ys weights) same

  pub one_of_32 : Rowed r
  one_of_32 = rowed K ns weights tab.passed t tab.tabled (r, after) of_table

  pub told_is : (told : Result ℕ Fault) → told ≡ by_belt r → ◌≡◌ {A = Outcome ℕ ℤ} (record { answer = told; memory = after }) (derive K ns weights)
  told_is told e = ap (λ x. record { answer = x; memory = after }) e ∙ outcome K ns weights tab.passed t tab.tabled (r, after) of_table
