-- One more kept row, or one more balance, at the end of its memory.
use Rattle.std.proofs.Common.{◌≡◌, ℕ, zero, suc, ◌+◌, ◌*◌, ◌<◌, ◌≤◌, List, [], ◌∷◌, ◌++◌, map, length, take, drop, set, ℤ, Some, None, sym, refl, ap, ◌∙◌, ap₂, suc-mul, zero-mul, add-one, mul-le-mul, arith}
use Rattle.std.proofs.lemmas.List.{take_at, take-append-le, drop-append-le, take-append-drop, take_more_set, length-drop, length-take-le, length-map, map-append, nil_from_length, append_assoc, length-append}
use Rattle.kinds.specs.Kinds.{Kind, Lawful}
use Rattle.kinds.specs.Elimination.{State, added}
use Rattle.elimination.specs.Memory.{rows_of, kept_of, state_of, told}

-- a number that is written counts as itself
pub counts_back : {K : Kind} (L : Lawful K) (w : List K.Num) → map K.counts (map K.writes w) ≡ w
counts_back L [] = refl
counts_back L (x ∷ w) = ap₂ (λ y v. y ∷ v) (L.counts_written x) (counts_back L w)

module _ {A : Type 0} (size : ℕ) where
  -- what lies behind the rows does not count
  kept_front : (ts : List ℕ) (front rest : List A) → length front ≡ length ts * size → kept_of size ts (front ++ rest) ≡ kept_of size ts front
  kept_front [] front rest e = refl
  kept_front (t ∷ ts) front rest e =
      let m = suc-mul (length ts) size in
      let l : size ≤ length front = omega arith in
      let d : length (drop size front) ≡ length ts * size = length-drop size front ∙ omega arith in
      ap₂ (λ xs ys. (t, xs) ∷ kept_of size ts ys) (take-append-le size front rest l) (drop-append-le size front rest l)
      ∙ ap (λ ys. (t, take size front) ∷ ys) (kept_front ts (drop size front) rest d)

  kept_push : (ts : List ℕ) (j : ℕ) (front row rest : List A) → length front ≡ length ts * size → length row ≡ size → kept_of size (ts ++ j ∷ []) (front ++ (row ++ rest)) ≡ kept_of size ts front ++ (j, row) ∷ []
  kept_push [] j front row rest e n =
      let z = nil_from_length front (omega (arith, zero-mul size)) in
      ap (λ zs. (j, take size (zs ++ (row ++ rest))) ∷ []) z ∙ ap (λ zs. (j, zs) ∷ []) (take_at row rest size n)
  kept_push (t ∷ ts) j front row rest e n =
      let m = suc-mul (length ts) size in
      let l : size ≤ length front = omega arith in
      let d : length (drop size front) ≡ length ts * size = length-drop size front ∙ omega arith in
      ap₂ (λ xs ys. (t, xs) ∷ kept_of size (ts ++ j ∷ []) ys) (take-append-le size front (row ++ rest) l) (drop-append-le size front (row ++ rest) l)
      ∙ ap (λ ys. (t, take size front) ∷ ys) (kept_push ts j (drop size front) row rest d n)

  rows_front : (k : ℕ) (front rest : List A) → length front ≡ k * size → rows_of k size (front ++ rest) ≡ rows_of k size front
  rows_front zero front rest e = refl
  rows_front (suc k) front rest e =
      let m = suc-mul k size in
      let l : size ≤ length front = omega arith in
      let d : length (drop size front) ≡ k * size = length-drop size front ∙ omega arith in
      ap₂ (λ xs ys. xs ∷ rows_of k size ys) (take-append-le size front rest l) (drop-append-le size front rest l)
      ∙ ap (λ ys. take size front ∷ ys) (rows_front k (drop size front) rest d)

  rows_push : (k : ℕ) (front row rest : List A) → length front ≡ k * size → length row ≡ size → rows_of (suc k) size (front ++ (row ++ rest)) ≡ rows_of k size front ++ row ∷ []
  rows_push zero front row rest e n =
      let z = nil_from_length front (omega (arith, zero-mul size)) in
      ap (λ zs. take size (zs ++ (row ++ rest)) ∷ []) z ∙ ap (λ zs. zs ∷ []) (take_at row rest size n)
  rows_push (suc k) front row rest e n =
      let m = suc-mul k size in
      let l : size ≤ length front = omega arith in
      let d : length (drop size front) ≡ k * size = length-drop size front ∙ omega arith in
      ap₂ (λ xs ys. xs ∷ rows_of (suc k) size ys) (take-append-le size front (row ++ rest) l) (drop-append-le size front (row ++ rest) l)
      ∙ ap (λ ys. take size front ∷ ys) (rows_push k (drop size front) row rest d n)

module _ {N T : Type 0} (value : T → N) (size k : ℕ) (rows row : List T) (n : length row ≡ size) where
  -- the memory with the row written at its place
  abbrev pub Written : List T → Type 0
  Written new = new ≡ take (k * size) rows ++ (row ++ drop (k * size + length row) rows)

module _ {N T : Type 0} (value : T → N) (size k : ℕ) (rows row : List T) (n : length row ≡ size) (room : k * size + size ≤ length rows) where
  abbrev front : List N
  front = map value (take (k * size) rows)

  front_length : length front ≡ k * size
  front_length = length-map (take (k * size) rows) value ∙ length-take-le (k * size) rows (omega arith)

  row_length : length (map value row) ≡ size
  row_length = length-map row value ∙ n

  split : map value rows ≡ front ++ map value (drop (k * size) rows)
  split = ap (map value) (sym (take-append-drop (k * size) rows)) ∙ map-append value (take (k * size) rows) (drop (k * size) rows)

  written : (new : List T) → Written value size k rows row n new → map value new ≡ front ++ (map value row ++ map value (drop (k * size + length row) rows))
  written new e = ap (map value) e ∙ map-append value (take (k * size) rows) _ ∙ ap (λ zs. front ++ zs) (map-append value row (drop (k * size + length row) rows))

  pub kept_more : (leads : List ℕ) (j : ℕ) (new : List T) → k < length leads → Written value size k rows row n new → kept_of size (take (k + 1) (set leads k j)) (map value new) ≡ kept_of size (take k leads) (map value rows) ++ (j, map value row) ∷ []
  kept_more leads j new l e =
      let t = length-take-le k leads (omega arith) in
      let f : length front ≡ length (take k leads) * size = front_length ∙ ap (λ x. x * size) (sym t) in
      ap₂ (λ ts zs. kept_of size ts zs) (take_more_set leads k j l) (written new e)
      ∙ kept_push size (take k leads) j front (map value row) (map value (drop (k * size + length row) rows)) f row_length
      ∙ ap (λ zs. zs ++ (j, map value row) ∷ []) (sym (ap (kept_of size (take k leads)) split ∙ kept_front size (take k leads) front (map value (drop (k * size) rows)) f))

  pub rows_more : (new : List T) → Written value size k rows row n new → rows_of (k + 1) size (map value new) ≡ rows_of k size (map value rows) ++ map value row ∷ []
  rows_more new e =
      ap₂ (λ c zs. rows_of c size zs) (add-one k) (written new e)
      ∙ rows_push size k front (map value row) (map value (drop (k * size + length row) rows)) front_length row_length
      ∙ ap (λ zs. zs ++ map value row ∷ []) (sym (ap (rows_of k size) split ∙ rows_front size k front (map value (drop (k * size) rows)) front_length))

-- ---- the state in memory, one row later
module _ (K : Kind) {T : Type 0} (value : T → K.Num) (n used found : ℕ) (leads : List ℕ) (rows row : List T) (balances : List K.Num) where
  abbrev state : State K.Num
  state = state_of n (length row) used found leads (map value rows) balances

  pub added_lead : (j : ℕ) (new : List T) → used < length leads → used * length row + length row ≤ length rows → Written value (length row) used rows row refl new
      → added K n state (told K (Some j) (map value row)) ≡ Some (state_of n (length row) (used + 1) found (set leads used j) (map value new) balances)
  added_lead j new l room w =
      ap (λ ks. Some (record { rows = ks; balances = rows_of found n balances })) (sym (kept_more value (length row) used rows row refl room leads j new l w))

-- there is room for the weights of one balance more
pub room_for_weights : (found n : ℕ) → found < 32 → n ≤ 32 → found * n + n ≤ 1024
room_for_weights found n p q = let h : suc found * n ≤ 32 * 32 = mul-le-mul p q in omega (arith, suc-mul found n)

-- the weights of a balance, as they are written, behind the others
module _ {K : Kind} (L : Lawful K) (n found : ℕ) (weights new row : List ℤ) (cells : List K.Num) where
  pub added_balance : (size used : ℕ) (leads : List ℕ) (rows : List K.Num) → row ≡ map K.writes (take n cells) → length row ≡ n → found * n + n ≤ length weights → new ≡ take (found * n) weights ++ (row ++ drop (found * n + length row) weights)
      → added K n (state_of n size used found leads rows (map K.counts weights)) (told K None cells) ≡ Some (state_of n size used (found + 1) leads rows (map K.counts new))
  added_balance size used leads rows er n' room w =
      ap (λ ws. Some (record { rows = kept_of size (take used leads) rows; balances = ws }))
      (ap (λ w. rows_of found n (map K.counts weights) ++ w ∷ []) (sym (ap (map K.counts) er ∙ counts_back L (take n cells))) ∙ sym (rows_more K.counts n found weights row n' room new w))

  pub still_written : row ≡ map K.writes (take n cells) → length row ≡ n → found * n + n ≤ length weights → new ≡ take (found * n) weights ++ (row ++ drop (found * n + length row) weights)
      → map K.writes (map K.counts (take (found * n) weights)) ≡ take (found * n) weights → map K.writes (map K.counts (take ((found + 1) * n) new)) ≡ take ((found + 1) * n) new
  still_written er n' room w old =
      let front = take (found * n) weights in
      let tail = drop (found * n + length row) weights in
      let z : (found + 1) * n ≡ found * n + n = ap (λ k. k * n) (add-one found) ∙ omega (arith, suc-mul found n) in
      let lf : length front ≡ found * n = length-take-le (found * n) weights (omega arith) in
      let t : take ((found + 1) * n) new ≡ front ++ row =
      ap₂ take z (w ∙ sym (append_assoc front row tail)) ∙ take_at (front ++ row) tail (found * n + n) (length-append front row ∙ ap₂ (λ x y. x + y) lf n') in
      let h : map K.writes (map K.counts row) ≡ row = ap (λ x. map K.writes (map K.counts x)) er ∙ ap (map K.writes) (counts_back L (take n cells)) ∙ sym er in
      ap (λ x. map K.writes (map K.counts x)) t ∙ ap (map K.writes) (map-append K.counts front row) ∙ map-append K.writes (map K.counts front) (map K.counts row) ∙ ap₂ (λ x y. x ++ y) old h ∙ sym t
