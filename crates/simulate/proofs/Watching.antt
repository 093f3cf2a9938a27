-- Balances read from the weights that derivation wrote, one after another.
use Rattle.std.proofs.Common.{◌≡◌, ℕ, zero, suc, ◌+◌, ◌*◌, ◌<◌, ◌≤◌, max, Bool, true, false, nat_lt, List, [], ◌∷◌, ◌++◌, map, length, drop, ℤ, Ok, Err, Result, count_by, sym, refl, ap, ap₂, ◌∙◌, add-one, append_assoc, arith, mul-le-mul}
use Rattle.std.specs.List.{flat_map}
use Rattle.std.specs.Result.{result_unwrap_or}
use Rattle.std.proofs.lemmas.List.{length-append, take_at, drop_at}
use native.Mathlib.Nat.{suc-mul}
use Rattle.sheet.specs.declared.node.Node.{Node}
use Rattle.sheet.specs.declared.fault.Fault.{Fault}
use Rattle.sheet.specs.declared.fault.Refusal.TheVariants.{ShortWeights}
use Rattle.sheet.specs.Nodes.{is_belt}
use Rattle.sheet.specs.Outcomes.{Outcome, written}
use Rattle.sheet.specs.Refusals.{refuse_if}
use Rattle.sheet.proofs.Refusals.{ok_err}
use Rattle.kinds.specs.Kinds as N
use Rattle.elimination.specs.Memory.{rows_of}
use Rattle.flows.specs.Derivation.{derived, derive}
use Rattle.flows.proofs.Complete.{CountsZero}
use Rattle.flows.proofs.Derived.{wholes_count, parities_count, derived_complete}
use Rattle.derivation.proofs.Deriving.{rows_back}
use Rattle.simulate.specs.declared.balance.Kind.{Kind}
use Rattle.simulate.specs.declared.balance.Kind.TheVariants.{Whole, Parity}
use Rattle.simulate.specs.Kinds.{numbers_of}
use Rattle.simulate.specs.Balances.{BalanceValue, new_balance, Derived}

-- a turn: the next row of what is left
module _ (n k k' : ℕ) (rest row rest' : List ℤ) (is : rest ≡ row ++ rest') (size : length row ≡ n) (more : k' + 1 ≡ k) where
  one_more : k ≡ suc k'
  one_more = sym more ∙ add-one k'

  pub room_on : k * n ≤ length rest → k' * n ≤ length rest'
  room_on h = let l = ap length is ∙ length-append row rest' in let m = ap (λ j. j * n) one_more ∙ suc-mul k' n in omega arith

  pub watched_on : (f : List ℤ → BalanceValue) (front all : List BalanceValue) → front ++ map f (rows_of k n rest) ≡ all → (front ++ f row ∷ []) ++ map f (rows_of k' n rest') ≡ all
  watched_on f front all h =
      append_assoc front (f row ∷ []) (map f (rows_of k' n rest'))
      ∙ ap (λ xs. front ++ xs)
      (sym
      (ap (λ j. map f (rows_of j n rest)) one_more ∙ ap (λ xs. map f (rows_of (suc k') n xs)) is ∙ ap₂ (λ x y. f x ∷ map f (rows_of k' n y)) (take_at row rest' n size) (drop_at row rest' n size)))
      ∙ h

-- at the end nothing is left
pub none_left : (n left : ℕ) (rest : List ℤ) → left * n ≤ length rest → (0 < left → length rest < n) → left ≡ 0
none_left n zero rest h f = refl
none_left n (suc k) rest h f = let m = suc-mul k n in let l = f (omega arith) in absurd (omega arith)

-- what an accepted derivation told and wrote: the balances, no more than there are belts
pub record Written (K : N.Kind) (ns : List Node) (count : ℕ) (after : List ℤ) : Type 0 where
  pub weights : List (List ℤ)
  pub found : derived K ns ≡ Ok weights
  pub rows : rows_of count (count_by is_belt ns) after ≡ weights
  pub few : count ≤ count_by is_belt ns

module _ (ns : List Node) (weights after : List ℤ) (count : ℕ) where
  abbrev n : ℕ
  n = count_by is_belt ns

  abbrev told : Outcome ℕ ℤ
  told = record { answer = Ok count; memory = after }

  written_in : {K : N.Kind} {Z : ℤ → Type 0} → CountsZero K Z → told ≡ derive K ns weights → Written K ns count after
  written_in {K} {Z} C e = by (nat_lt (length weights) (n * n)) (derived K ns) refl (ap (λ o. o.answer) e) (ap (λ o. o.memory) e)
    where
      by : (short : Bool) (d : Result (List (List ℤ)) Fault) → derived K ns ≡ d
          → told.answer ≡ (written length (flat_map (λ w. w)) (refuse_if short ShortWeights 0 d) weights).answer
          → after ≡ (written length (flat_map (λ w. w)) (refuse_if short ShortWeights 0 d) weights).memory
          → Written K ns count after
      by true d f g m = absurd (ok_err g)
      by false (Err x) f g m = absurd (ok_err g)
      by false (Ok balances) f g m =
          let all = derived_complete C ns balances f in
          let k : count ≡ length balances = ap (λ r. result_unwrap_or r 0) g in
          record {
            weights = balances;
            found = f;
            rows = ap (λ j. rows_of j n after) k ∙ ap (rows_of (length balances) n) m ∙ rows_back n balances (drop (length (flat_map (λ w. w) balances)) weights) all.sized;
            few = omega (arith, all.few, k);
          }

  pub written_of : (kind : Kind) (r : Result ℕ Fault) → r ≡ Ok count → ◌≡◌ {A = Outcome ℕ ℤ} (record { answer = r; memory = after }) (derive (numbers_of kind) ns weights) → Written (numbers_of kind) ns count after
  written_of kind r is e = let outcome : Result ℕ Fault → Outcome ℕ ℤ = λ x. record { answer = x; memory = after } in by kind (ap outcome (sym is) ∙ e)
    where
      by : (kind : Kind) → told ≡ derive (numbers_of kind) ns weights → Written (numbers_of kind) ns count after
      by Whole e = written_in wholes_count e
      by Parity e = written_in parities_count e

-- the balances watched are those derived, where rows are of one weight at least
pub watched_are : (kind : Kind) (ns : List Node) (count size : ℕ) (after : List ℤ) (balances : List BalanceValue) → Written (numbers_of kind) ns count after → size ≡ max (count_by is_belt ns) 1
    → balances ≡ map (new_balance kind) (rows_of count size after) → Derived kind ns balances
watched_are kind ns count size after balances w es eb = record { weights = w.weights; found = w.found; all = eb ∙ ap (map (new_balance kind)) (rows count w.few ∙ w.rows) }
  where
    rows : (k : ℕ) → k ≤ count_by is_belt ns → rows_of k size after ≡ rows_of k (count_by is_belt ns) after
    rows zero h = refl
    rows (suc k) h = ap (λ m. rows_of (suc k) m after) (omega arith)

-- and they are within the weights
pub watched_fit : (kind : Kind) (ns : List Node) (count size : ℕ) (after : List ℤ) → Written (numbers_of kind) ns count after → size ≡ max (count_by is_belt ns) 1 → count_by is_belt ns ≤ 32 → 1024 ≤ length after
    → count * size ≤ length after
watched_fit kind ns count size after w es few room = let m : count * size ≤ 32 * 32 = mul-le-mul {n₁ = count} {m₁ = size} {n₂ = 32} {m₂ = 32} (omega (arith, w.few)) (omega arith) in omega arith
