-- Balances in memory as they are written, and sizes that fit.
use Rattle.std.proofs.Common.{◌≡◌, ℕ, zero, suc, ◌+◌, ◌*◌, ◌≤◌, true, false, cond, ◌&&◌, eqb, leb, List, ◌++◌, map, length, take, drop, ℤ, Ok, Err, sym, refl, ap, ◌∙◌, ap₂, suc-mul, mul-le-mul, mul-le-mul_right, zero-mul, arith, take-add}
use Rattle.std.specs.List.{flat_map}
use Rattle.std.proofs.lemmas.List.{length-take-le, map-append, take-map}
use Rattle.std.proofs.lemmas.Bool.{and_parts, eqb-true, leb-true}
use Rattle.kinds.specs.Kinds.{Kind}
use Rattle.elimination.specs.Memory.{rows_of}
use Rattle.elimination.specs.Answers.{sizes_fit, balances_of, answered, solved}
use Rattle.elimination.specs.declared.solve.EliminationError.TheVariants.{Sizes}

joined_rows : {N Z : Type 0} (h : N → Z) (n k : ℕ) (xs : List N) → flat_map (map h) (rows_of k n xs) ≡ map h (take (k * n) xs)
joined_rows h n zero xs = ap (λ z. map h (take z xs)) (sym (zero-mul n))
joined_rows h n (suc k) xs =
    let e : n + k * n ≡ suc k * n = omega (arith, suc-mul k n) in
    ap (λ zs. map h (take n xs) ++ zs) (joined_rows h n k (drop n xs)) ∙ sym (map-append h (take n xs) (take (k * n) (drop n xs)))
    ∙ ap (map h) (sym (take-add n (k * n) xs)) ∙ ap (λ z. map h (take z xs)) e

pub length_rows : {N : Type 0} (n k : ℕ) (xs : List N) → length (rows_of k n xs) ≡ k
length_rows n zero xs = refl
length_rows n (suc k) xs = ap suc (length_rows n k (drop n xs))

pub answered_rows : (K : Kind) (n k : ℕ) (ws old new : List ℤ) → k * n ≤ length ws → map K.writes (map K.counts (take (k * n) ws)) ≡ take (k * n) ws → new ≡ take (k * n) ws ++ drop (k * n) old → (Ok k, new) ≡ answered K old (Ok (rows_of k n (map K.counts ws)))
answered_rows K n k ws old new l h e =
    let rows = rows_of k n (map K.counts ws) in
    let j : flat_map (map K.writes) rows ≡ take (k * n) ws = joined_rows K.writes n k (map K.counts ws) ∙ ap (map K.writes) (take-map K.counts (k * n) ws) ∙ h in
    let z : length (take (k * n) ws) ≡ k * n = length-take-le (k * n) ws l in
    ap₂ (λ x y. (Ok x, y)) (sym (length_rows n k (map K.counts ws))) (e ∙ ap₂ (λ xs x. xs ++ drop x old) (sym j) (sym z ∙ ap length (sym j)))

-- the same table under other names
pub same_table : (K : Kind) {n n' m m' : ℕ} {xs xs' : List ℤ} → n' ≡ n → m' ≡ m → xs' ≡ xs → balances_of K n m xs ≡ balances_of K n' m' xs'
same_table K {n} {n'} {m} {m'} {xs} {xs'} en em ex = sym (ap₂ (λ x y. balances_of K x y xs') en em ∙ ap (balances_of K n m) ex)

module _ (K : Kind) (n m : ℕ) (xs weights : List ℤ) where
  pub solved_unfit : false ≡ sizes_fit n m (length xs) (length weights) → (Err Sizes, weights) ≡ solved K n m xs weights
  unfolding solved
  solved_unfit e = ap (λ b. cond b (answered K weights (balances_of K n m xs)) (Err Sizes, weights)) e

  pub solved_fit : true ≡ sizes_fit n m (length xs) (length weights) → answered K weights (balances_of K n m xs) ≡ solved K n m xs weights
  unfolding solved
  solved_fit e = ap (λ b. cond b (answered K weights (balances_of K n m xs)) (Err Sizes, weights)) e

-- what sizes that fit say
pub record Fit (n m coefficients weights : ℕ) : Type 0 where
  pub few : n ≤ 32
  pub narrow : m ≤ 256
  pub full : coefficients ≡ n * m
  pub room : n * n ≤ weights

pub fits : (n m c w : ℕ) → true ≡ sizes_fit n m c w → Fit n m c w
fits n m c w e =
    let a = and_parts (leb n 32 && leb m 256 && eqb c (n * m)) (leb (n * n) w) (sym e) in
    let b = and_parts (leb n 32 && leb m 256) (eqb c (n * m)) a.0 in
    let d = and_parts (leb n 32) (leb m 256) b.0 in
    record { few = leb-true n 32 d.0; narrow = leb-true m 256 d.1; full = eqb-true c (n * m) b.1; room = leb-true (n * n) w a.1 }

-- so many rows, and so many balances, have room
pub all_rows : (rows size : ℕ) → rows ≤ 32 → size ≤ 288 → rows * size ≤ 9216
all_rows rows size p q = mul-le-mul p q

pub all_balances : (k n : ℕ) → k ≤ n → n ≤ 32 → (k * n ≤ n * n) × (k * n ≤ 1024)
all_balances k n l p = let h : k ≤ 32 = omega arith in (mul-le-mul_right n l, mul-le-mul h p)
