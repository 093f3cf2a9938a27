-- A printed list is read back as it was.
use Rattle.std.proofs.Common.{◌≡◌, ℕ, zero, suc, ◌+◌, ◌^◌, ◌<◌, ◌≤◌, Bool, true, false, ltb, leb, List, [], ◌∷◌, ◌++◌, map, length, take, drop, ℤ, pos, negsuc, neg_ℤ, IfOk, Some, Ok, Err, decimal, Result, sym, refl, ap, ◌∙◌, subst, ap₂, arith}
use Rattle.std.specs.List.{range_with_len, flat_map, AllByRecursion}
use Rattle.std.specs.Option.{option_map}
use Rattle.std.specs.Fmt.{signed_decimal}
use Rattle.std.proofs.lemmas.Bool.{and_parts, and_from, lt-ltb, leb-true, ltb-false, ne_eqb, cond-false}
use Rattle.std.proofs.lemmas.List.{append-nil, append_assoc, length-append, take_at}
use Rattle.std.proofs.ByRecursion.{All-map, All-weaker}
use Rattle.std.proofs.lemmas.Fmt.{decimal_nonempty, digits_decimal, digits_value-decimal}
use Rattle.sheet.specs.declared.fault.Fault.{Fault}
use Rattle.sheet.specs.declared.fault.Refusal.TheVariants.{ShortText}
use Rattle.sheet.specs.Outcomes.{Outcome, written}
use Rattle.sheet.specs.Refusals.{refuse_if}
use Rattle.sheet.specs.Text.{ended, lines_of, fields_of, is_digit, digits}
use Rattle.sheet.proofs.Fields.{past, past_append, closed, ended_joined, parted_ended, digital, own, digits_read, digits_past}
use Rattle.printing.specs.Printing.{line_of, rows_of, name_of, row_text, list_text, is_large, list_unfit, in_text}
use Rattle.printing.specs.Reading.{words_of, natural_in, whole_in, belt_in, of_lines, reading, listed}
use Rattle.printing.proofs.Sizes.{Small, fits}

-- a word is some bytes, and no blank or line feed stands in it
record Word (w : List ℕ) : Type 0 where
  plain : (s : ℕ) → s ≤ 32 → past s w ≡ true
  some : 0 < length w

-- a line without its line feed
abbrev bare : List (List ℕ) → List ℕ
bare [] = []
bare (w ∷ []) = w
bare (w ∷ v ∷ ws) = w ++ 32 ∷ bare (v ∷ ws)

line_closed : (ws : List (List ℕ)) → line_of ws ≡ closed 10 (bare ws)
line_closed [] = refl
line_closed (w ∷ []) = refl
line_closed (w ∷ v ∷ ws) = ap (λ x. w ++ 32 ∷ x) (line_closed (v ∷ ws)) ∙ sym (append_assoc w (32 ∷ bare (v ∷ ws)) (10 ∷ []))

bare_joined : (w : List ℕ) (ws : List (List ℕ)) → closed 32 (bare (w ∷ ws)) ≡ flat_map (closed 32) (w ∷ ws)
bare_joined w [] = sym (append-nil (closed 32 w))
bare_joined w (v ∷ ws) =
    append_assoc w (32 ∷ bare (v ∷ ws)) (32 ∷ []) ∙ ap (λ x. w ++ 32 ∷ x) (bare_joined v ws) ∙ sym (append_assoc w (32 ∷ []) (flat_map (closed 32) (v ∷ ws)))

bare_some : (w : List ℕ) (ws : List (List ℕ)) → 0 < length w → 0 < length (bare (w ∷ ws))
bare_some w [] h = h
bare_some w (v ∷ ws) h = omega (arith, length-append w (32 ∷ bare (v ∷ ws)))

bare_unbroken : (ws : List (List ℕ)) → AllByRecursion Word ws → past 10 (bare ws) ≡ true
bare_unbroken [] h = refl
bare_unbroken (w ∷ []) h = h.0.plain 10 (omega arith)
bare_unbroken (w ∷ v ∷ ws) h = past_append 10 w (32 ∷ bare (v ∷ ws)) (h.0.plain 10 (omega arith)) (bare_unbroken (v ∷ ws) h.1)

words_fields : (x : List ℕ) → 0 < length x → words_of x ≡ fields_of x
words_fields [] h = absurd (omega arith)
words_fields (b ∷ bs) h = refl

words_bare : (ws : List (List ℕ)) → AllByRecursion Word ws → words_of (bare ws) ≡ ws
words_bare [] h = refl
words_bare (w ∷ ws) h =
    words_fields (bare (w ∷ ws)) (bare_some w ws h.0.some) ∙ parted_ended 32 [] (bare (w ∷ ws)) ∙ ap (ended 32 []) (bare_joined w ws)
    ∙ ended_joined 32 (w ∷ ws) (All-weaker Word (λ v. past 32 v ≡ true) (λ v f. f.plain 32 (omega arith)) (w ∷ ws) h)

-- numbers
natural_digits : (x : List ℕ) → 0 < length x → natural_in x ≡ digits 0 x
natural_digits [] h = absurd (omega arith)
natural_digits (b ∷ bs) h = refl

natural_read : (n : ℕ) → n < 2 ^ 64 → natural_in (decimal n) ≡ Some n
natural_read n h =
    natural_digits (decimal n) (decimal_nonempty n h) ∙ digits_read 0 (decimal n) (digits_decimal own n h) ∙ ap Some (digits_value-decimal own n h)

whole_plain : (x : List ℕ) → digital x ≡ true → 0 < length x → whole_in x ≡ option_map pos (natural_in x)
whole_plain [] d h = absurd (omega arith)
whole_plain (b ∷ bs) d h =
    let p = and_parts (leb 48 b) (leb b 57) (and_parts (is_digit b) (digital bs) d).0 in
    cond-false _ _ _ (ne_eqb b 45 (λ e. omega (arith, leb-true 48 b p.0)))

whole_read : (z : ℤ) → is_large z ≡ false → whole_in (signed_decimal z) ≡ Some z
whole_read (pos n) h =
    let l = ltb-false 1000000 n h in
    let w : n < 2 ^ 64 = omega arith in
    whole_plain (decimal n) (digits_decimal own n w) (decimal_nonempty n w) ∙ ap (option_map pos) (natural_read n w)
whole_read (negsuc n) h =
    let l = ltb-false 1000000 (suc n) h in
    ap (option_map (λ m. neg_ℤ (pos m))) (natural_read (suc n) (omega arith))

-- words
decimal_word : (n : ℕ) → n < 2 ^ 64 → Word (decimal n)
decimal_word n h = record { plain = λ s l. digits_past s (decimal n) l (digits_decimal own n h); some = decimal_nonempty n h }

word_after_byte : (b : ℕ) (w : List ℕ) → 32 < b → Word w → Word (b ∷ w)
word_after_byte b w h f = record { plain = λ s l. and_from _ _ (lt-ltb s b (omega arith)) (f.plain s l); some = omega arith }

weight_word : (z : ℤ) → is_large z ≡ false → Word (signed_decimal z)
weight_word (pos n) h = let l = ltb-false 1000000 n h in decimal_word n (omega arith)
weight_word (negsuc n) h = let l = ltb-false 1000000 (suc n) h in word_after_byte 45 (decimal (suc n)) (omega arith) (decimal_word (suc n) (omega arith))

names_words : (a n : ℕ) → a + n ≤ 32 → AllByRecursion Word (map name_of (range_with_len a n))
names_words a zero h = tt
names_words a (suc n) h = (word_after_byte 66 (decimal a) (omega arith) (decimal_word a (omega arith)), names_words (a + 1) n (omega arith))

names_read : (a n : ℕ) → a + n ≤ 32 → map belt_in (map name_of (range_with_len a n)) ≡ map Some (range_with_len a n)
names_read a zero h = refl
names_read a (suc n) h = ap₂ (λ x xs. x ∷ xs) (natural_read a (omega arith)) (names_read (a + 1) n (omega arith))

row_words : (ws : List ℤ) → Small ws → AllByRecursion Word (map signed_decimal ws)
row_words ws h = All-map Word signed_decimal ws (All-weaker _ (λ w. Word (signed_decimal w)) weight_word ws h)

row_read : (ws : List ℤ) → Small ws → map whole_in (map signed_decimal ws) ≡ map Some ws
row_read [] h = refl
row_read (w ∷ ws) h = ap₂ (λ x xs. x ∷ xs) (whole_read w h.0) (row_read ws h.1)

-- lines
abbrev row_line : List ℤ → List ℕ
row_line ws = bare (map signed_decimal ws)

rows_closed : (rs : List (List ℤ)) → flat_map row_text rs ≡ flat_map (closed 10) (map row_line rs)
rows_closed [] = refl
rows_closed (r ∷ rs) = ap₂ (λ x y. x ++ y) (line_closed (map signed_decimal r)) (rows_closed rs)

rows_read : (rs : List (List ℤ)) → AllByRecursion Small rs → map (λ l. map whole_in (words_of l)) (map row_line rs) ≡ map (map Some) rs
rows_read [] h = refl
rows_read (r ∷ rs) h = ap₂ (λ x xs. x ∷ xs) (ap (map whole_in) (words_bare (map signed_decimal r) (row_words r h.0)) ∙ row_read r h.0) (rows_read rs h.1)

pub read_back : (belts balances : ℕ) (weights : List ℤ) → list_unfit belts balances weights ≡ false → reading (list_text belts balances weights) ≡ listed belts balances weights
read_back n k ws e =
    let f = fits n k ws e in
    let names = map name_of (range_with_len 0 n) in
    let rows = rows_of n k ws in
    let words = names_words 0 n (omega (arith, f.few)) in
    let lines = bare names ∷ map row_line rows in
    let split : lines_of (list_text n k ws) ≡ lines = ap lines_of (ap₂ (λ x y. x ++ y) (line_closed names) (rows_closed rows)) ∙ ended_joined 10 lines (bare_unbroken names words, All-map (λ l. past 10 l ≡ true) row_line rows (All-weaker Small (λ r. past 10 (row_line r) ≡ true) (λ r h. bare_unbroken (map signed_decimal r) (row_words r h)) rows f.small)) in
    ap of_lines split
    ∙ ap₂ (λ x y. record { names = x; rows = y }) (ap (map belt_in) (words_bare names words) ∙ names_read 0 n (omega (arith, f.few))) (rows_read rows f.small)

-- what is accepted stands in the first bytes of the memory
pub first_bytes : (P : List ℕ → Type 0) (r : Result ℕ Fault) (memory bytes text : List ℕ) → P bytes → record { answer = r; memory = memory } ≡ in_text (Ok bytes) text → IfOk r (λ n. P (take n memory))
first_bytes P (Err f) memory bytes text h e = tt
first_bytes P (Ok n) memory bytes text h e = by (ltb (length text) (length bytes)) e where
  by : (b : Bool) → ◌≡◌ {A = Outcome ℕ ℕ} (record { answer = Ok n; memory = memory }) (written length (λ x. x) (refuse_if b ShortText 0 (Ok bytes)) text) → P (take n memory)
  by true e = let z : ◌≡◌ {A = ℕ} 0 1 = cc (ap (λ o. o.answer) e) in absurd (omega arith)
  by false e =
      let a : n ≡ length bytes = cc (ap (λ o. o.answer) e) in
      let m : memory ≡ bytes ++ drop (length bytes) text = ap (λ o. o.memory) e in
      subst P (sym (ap₂ take a m ∙ take_at bytes (drop (length bytes) text) (length bytes) refl)) h
