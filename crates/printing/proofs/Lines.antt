-- Text that is pushed piece by piece, and lines word by word.
use Rattle.std.proofs.Common.{◌≡◌, ℕ, suc, ◌+◌, ◌-◌, ◌*◌, ◌^◌, ◌<◌, ◌≤◌, List, [], ◌∷◌, ◌++◌, map, length, get_or, take, drop, ℤ, pos, decimal, sym, refl, ap, ◌∙◌, mul-suc, add-one, arith}
use Rattle.std.specs.List.{range_with_len, flat_map}
use Rattle.std.specs.Fmt.{signed_decimal}
use Rattle.std.proofs.lemmas.List.{append_assoc, length-append, drop_more}
use Rattle.std.proofs.lemmas.Fmt.{length-decimal-le}
use Rattle.printing.specs.Printing.{line_of, name_of, row_text, rows_of}
use Rattle.printing.specs.Pages.{gap}

pub ten_digits : (n : ℕ) → n < 2 ^ 32 → length (decimal n) ≤ 10
ten_digits n h = length-decimal-le 10 n (omega arith) (omega arith) (omega arith)

-- what is left of a line from word i on
abbrev pub rest_of : ℕ → List (List ℕ) → List ℕ
rest_of i [] = 10 ∷ []
rest_of i (w ∷ ws) = gap i ++ (w ++ rest_of (i + 1) ws)

line_after : (i : ℕ) (w : List ℕ) (ws : List (List ℕ)) → line_of (w ∷ ws) ≡ w ++ rest_of (i + 1) ws
line_after i w [] = refl
line_after i w (v ∷ ws) = ap (λ x. w ++ 32 ∷ x) (line_after (i + 1) v ws) ∙ ap (λ g. w ++ (g ++ (v ++ rest_of (i + 1 + 1) ws))) (ap gap (sym (add-one i)))

pub line_rest : (ws : List (List ℕ)) → line_of ws ≡ rest_of 0 ws
line_rest [] = refl
line_rest (w ∷ ws) = line_after 0 w ws

-- the page has room for the line after the text; at word i, p is what is on it, and the words are those that are left
module _ (text line p : List ℕ) (i : ℕ) (room : length text + length line ≤ 9504) (words : List (List ℕ)) (left : p ++ rest_of i words ≡ text ++ line) where
  module _ {w : List ℕ} {ws : List (List ℕ)} (e : words ≡ w ∷ ws) where
    at_word : p ++ (gap i ++ (w ++ rest_of (i + 1) ws)) ≡ text ++ line
    at_word = ap (λ vs. p ++ rest_of i vs) (sym e) ∙ left

    lengths : length p + (length (gap i) + length w) ≤ 9504
    lengths =
        omega (arith, ap length at_word, length-append p (gap i ++ (w ++ rest_of (i + 1) ws)), length-append text line, length-append (gap i) (w ++ rest_of (i + 1) ws), length-append w (rest_of (i + 1) ws))

    pub room_for_gap : length p + length (gap i) ≤ 9504
    room_for_gap = omega (arith, lengths)

    pub room_for_word : (q : List ℕ) → q ≡ p ++ gap i → length q + length w ≤ 9504
    room_for_word q g = omega (arith, lengths, ap length g, length-append p (gap i))

    pub word_after : (q r : List ℕ) → q ≡ p ++ gap i → r ≡ q ++ w → r ++ rest_of (i + 1) ws ≡ text ++ line
    word_after q r g h = ap (λ x. x ++ rest_of (i + 1) ws) (h ∙ ap (λ x. x ++ w) g) ∙ simp append_assoc at_word

-- the words that are left
pub names_left : (b belts : ℕ) → b < belts → map name_of (range_with_len b (belts - b)) ≡ name_of b ∷ map name_of (range_with_len (b + 1) (belts - (b + 1)))
names_left b belts h = let e : belts - b ≡ suc (belts - (b + 1)) = omega arith in ap (λ n. map name_of (range_with_len b n)) e

pub names_whole : (belts : ℕ) → rest_of 0 (map name_of (range_with_len 0 (belts - 0))) ≡ line_of (map name_of (range_with_len 0 belts))
names_whole belts = let e : belts - 0 ≡ belts = omega arith in ap (λ n. rest_of 0 (map name_of (range_with_len 0 n))) e ∙ sym (line_rest (map name_of (range_with_len 0 belts)))

pub weights_left : (i : ℕ) (row : List ℤ) (z : ℤ) → z ≡ get_or row i (pos 0) → i < length row → map signed_decimal (drop i row) ≡ signed_decimal z ∷ map signed_decimal (drop (i + 1) row)
weights_left i row z e h = ap (map signed_decimal) (drop_more row i (pos 0) h) ∙ ap (λ y. signed_decimal y ∷ map signed_decimal (drop (i + 1) row)) (sym e)

-- the rows that are left
module _ (belts balances k : ℕ) (rest : List ℤ) (h : k < balances) where
  rows_left : rows_of belts (balances - k) rest ≡ take belts rest ∷ rows_of belts (balances - (k + 1)) (drop belts rest)
  rows_left = let e : balances - k ≡ suc (balances - (k + 1)) = omega arith in ap (λ m. rows_of belts m rest) e

  pub row_within : belts * (balances - k) ≤ length rest → (belts ≤ length rest) × (belts * (balances - (k + 1)) + belts ≤ length rest)
  row_within f =
      let e : balances - k ≡ suc (balances - (k + 1)) = omega arith in
      let g = ap (λ m. belts * m) e ∙ mul-suc belts (balances - (k + 1)) in
      (omega arith, omega arith)

  module _ (text all p : List ℕ) (left : p ++ flat_map row_text (rows_of belts (balances - k) rest) ≡ text ++ all) where
    at_row : p ++ (row_text (take belts rest) ++ flat_map row_text (rows_of belts (balances - (k + 1)) (drop belts rest))) ≡ text ++ all
    at_row = ap (λ rs. p ++ flat_map row_text rs) (sym rows_left) ∙ left

    pub room_for_row : (row : List ℤ) → row ≡ take belts rest → length text + length all ≤ 9504 → length p + length (row_text row) ≤ 9504
    room_for_row row e room =
        omega (arith, ap length at_row, ap (λ r. length (row_text r)) e, length-append p (row_text (take belts rest) ++ flat_map row_text (rows_of belts (balances - (k + 1)) (drop belts rest))), length-append (row_text (take belts rest)) (flat_map row_text (rows_of belts (balances - (k + 1)) (drop belts rest))), length-append text all)

    pub row_after : (q : List ℕ) (row more : List ℤ) → row ≡ take belts rest → more ≡ drop belts rest → q ≡ p ++ row_text row → q ++ flat_map row_text (rows_of belts (balances - (k + 1)) more) ≡ text ++ all
    row_after q row more e f g =
        ap (λ m. q ++ flat_map row_text (rows_of belts (balances - (k + 1)) m)) f
        ∙ ap (λ x. x ++ flat_map row_text (rows_of belts (balances - (k + 1)) (drop belts rest))) (g ∙ ap (λ r. p ++ row_text r) e)
        ∙ append_assoc p _ _ ∙ at_row
