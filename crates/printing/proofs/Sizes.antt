-- What it says of a list that it fits, and that a page has room for its text.
use Rattle.std.proofs.Common.{◌≡◌, ℕ, zero, suc, ◌+◌, ◌*◌, ◌≤◌, false, List, [], ◌∷◌, ◌++◌, map, length, take, drop, ℤ, pos, negsuc, sym, ap, ◌∙◌, add_comm, mul-suc, arith, take-add}
use Rattle.std.specs.List.{list_any, range_with_len, flat_map, AllByRecursion}
use Rattle.std.specs.Fmt.{signed_decimal}
use Rattle.std.proofs.lemmas.Bool.{or_parts, ltb-false}
use Rattle.std.proofs.lemmas.List.{length-append, length-map, length-take}
use Rattle.std.proofs.lemmas.List.Folds.{list_any-append}
use Rattle.std.proofs.lemmas.List.FromFn.{length-map-range_with_len}
use Rattle.std.proofs.ByRecursion.{All-map, All-weaker}
use Rattle.std.proofs.lemmas.Fmt.{length-decimal-le, length_signed_le}
use Rattle.printing.specs.Pages.{gap}
use Rattle.printing.specs.Printing.{line_of, rows_of, name_of, row_text, is_large, list_unfit}
use Rattle.printing.proofs.Lines.{rest_of, line_rest}

-- no weight is large
abbrev pub Small : List ℤ → Type 0
Small ws = AllByRecursion (λ w. is_large w ≡ false) ws

pub record Fits (belts balances : ℕ) (weights : List ℤ) : Type 0 where
  pub few : belts ≤ 32
  pub lines : balances ≤ 32
  pub full : belts * balances ≤ length weights
  pub small : AllByRecursion Small (rows_of belts balances weights)

none_of : (xs : List ℤ) → list_any is_large xs ≡ false → Small xs
none_of [] e = tt
none_of (x ∷ xs) e = let p = or_parts (is_large x) (list_any is_large xs) e in (p.0, none_of xs p.1)

small_rows : (n k : ℕ) (ws : List ℤ) → list_any is_large (take (n * k) ws) ≡ false → AllByRecursion Small (rows_of n k ws)
small_rows n zero ws e = tt
small_rows n (suc k) ws e =
    let m = mul-suc n k ∙ add_comm (n * k) n in
    let row = take n ws in
    let rest = take (n * k) (drop n ws) in
    let parts = ap (list_any is_large) (ap (λ j. take j ws) m ∙ take-add n (n * k) ws) ∙ list_any-append is_large row rest in
    let p = or_parts (list_any is_large row) (list_any is_large rest) (sym parts ∙ e) in
    (none_of row p.0, small_rows n k (drop n ws) p.1)

pub fits : (belts balances : ℕ) (weights : List ℤ) → list_unfit belts balances weights ≡ false → Fits belts balances weights
fits n k ws e =
    let p = or_parts _ _ e in
    let q = or_parts _ _ p.1 in
    let r = or_parts _ _ q.1 in
    record { few = ltb-false 32 n p.0; lines = ltb-false 32 k q.0; full = ltb-false (length ws) (n * k) r.0; small = small_rows n k ws r.1 }

-- a word has at most 8 bytes, and a line of 32 words at most 288
abbrev Short : List ℕ → Type 0
Short w = length w ≤ 8

gap_short : (i : ℕ) → length (gap i) ≤ 1
gap_short zero = omega arith
gap_short (suc i) = omega arith

rest_short : (i : ℕ) (ws : List (List ℕ)) → AllByRecursion Short ws → length (rest_of i ws) ≤ 9 * length ws + 1
rest_short i [] h = omega arith
rest_short i (w ∷ ws) h =
    omega (arith, h.0, gap_short i, rest_short (i + 1) ws h.1, length-append (gap i) (w ++ rest_of (i + 1) ws), length-append w (rest_of (i + 1) ws))

line_short : (ws : List (List ℕ)) → AllByRecursion Short ws → length ws ≤ 32 → length (line_of ws) ≤ 288
line_short [] h l = omega arith
line_short (w ∷ ws) h l = omega (arith, ap length (line_rest (w ∷ ws)), h.0, rest_short (0 + 1) ws h.1, length-append w (rest_of (0 + 1) ws))

names_short : (a n : ℕ) → a + n ≤ 32 → AllByRecursion Short (map name_of (range_with_len a n))
names_short a zero h = tt
names_short a (suc n) h = (omega (arith, length-decimal-le 2 a (omega arith) (omega arith) (omega arith)), names_short (a + 1) n (omega arith))

weight_short : (z : ℤ) → is_large z ≡ false → Short (signed_decimal z)
weight_short (pos n) h = let l = ltb-false 1000000 n h in length_signed_le 7 (pos n) (omega arith) (omega arith)
weight_short (negsuc n) h = let l = ltb-false 1000000 (suc n) h in length_signed_le 7 (negsuc n) (omega arith) (omega arith)

row_short : (n : ℕ) (ws : List ℤ) → n ≤ 32 → Small (take n ws) → length (row_text (take n ws)) ≤ 288
row_short n ws l h =
    line_short (map signed_decimal (take n ws)) (All-map Short signed_decimal (take n ws) (All-weaker _ (λ w. Short (signed_decimal w)) weight_short (take n ws) h))
    (omega (arith, length-map (take n ws) signed_decimal, length-take n ws))

rows_short : (n k : ℕ) (ws : List ℤ) → n ≤ 32 → AllByRecursion Small (rows_of n k ws) → length (flat_map row_text (rows_of n k ws)) ≤ 288 * k
rows_short n zero ws l h = omega arith
rows_short n (suc k) ws l h =
    omega (arith, row_short n ws l h.0, rows_short n k (drop n ws) l h.1, length-append (row_text (take n ws)) (flat_map row_text (rows_of n k (drop n ws))))

module _ (n k : ℕ) (ws : List ℤ) (f : Fits n k ws) where
  pub names_room : length (line_of (map name_of (range_with_len 0 n))) ≤ 288
  names_room = line_short _ (names_short 0 n (omega (arith, f.few))) (omega (arith, length-map-range_with_len name_of 0 n, f.few))

  pub rows_room : length (flat_map row_text (rows_of n k ws)) ≤ 9216
  rows_room = omega (arith, rows_short n k ws f.few f.small, f.lines)
