-- What is written is read back as the balances, so that what holds of them holds of the memory.
use Rattle.std.proofs.Common.{◌≡◌, ℕ, zero, suc, ◌*◌, ◌≤◌, Bool, true, false, cond, ◌↔◌, List, [], ◌∷◌, ◌++◌, map, length, drop, ℤ, IfOk, Ok, Err, Result, sym, refl, ap, ◌∙◌, subst, ap₂, suc-mul, arith}
use Rattle.std.specs.List.{flat_map, AllByRecursion}
use Rattle.std.proofs.lemmas.List.{append_assoc, map-append, length-map, length-drop, length-take-le, take_at, drop_at}
use Rattle.std.proofs.ByRecursion.{All-weaker}
use Rattle.kinds.specs.Kinds.{Kind, Lawful}
use Rattle.kinds.specs.Elimination.{any_past}
use Rattle.kinds.specs.Completeness.{Vanishes, Made}
use Rattle.kinds.proofs.Arrival.{sound, exactly, shaped, signed}
use Rattle.elimination.specs.Memory.{rows_of}
use Rattle.elimination.specs.Answers.{sizes_fit, balances_of, answered, solved, Exact}
use Rattle.elimination.proofs.Keeping.{counts_back}
use Rattle.elimination.proofs.Written.{Fit, fits, length_rows}
use Rattle.elimination.specs.declared.solve.EliminationError.{EliminationError}
use Rattle.elimination.specs.declared.solve.EliminationError.TheVariants.{Sizes}

rows_long : {A : Type 0} (m k : ℕ) (xs : List A) → k * m ≤ length xs → AllByRecursion (λ f. length f ≡ m) (rows_of k m xs)
rows_long m zero xs h = tt
rows_long m (suc k) xs h =
    let e = suc-mul k m in
    (length-take-le m xs (omega arith), rows_long m k (drop m xs) (omega (arith, length-drop m xs)))

module _ {K : Kind} (L : Lawful K) (n : ℕ) where
  rows_back : (P : List K.Num → Type 0) (ws : List (List K.Num)) (rest : List ℤ) → AllByRecursion (λ w. (length w ≡ n) × P w) ws → rows_of (length ws) n (map K.counts (flat_map (map K.writes) ws ++ rest)) ≡ ws
  rows_back P [] rest h = refl
  rows_back P (w ∷ ws) rest h =
      let new = flat_map (map K.writes) ws in
      let e : map K.counts ((map K.writes w ++ new) ++ rest) ≡ w ++ map K.counts (new ++ rest) =
      ap (map K.counts) (append_assoc (map K.writes w) new rest) ∙ map-append K.counts (map K.writes w) (new ++ rest) ∙ ap (λ v. v ++ map K.counts (new ++ rest)) (counts_back L w) in
      ap (rows_of (suc (length ws)) n) e
      ∙ ap₂ (λ x y. x ∷ rows_of (length ws) n y) (take_at w (map K.counts (new ++ rest)) n h.0.0) (drop_at w (map K.counts (new ++ rest)) n h.0.0)
      ∙ ap (λ v. w ∷ v) (rows_back P ws rest h.1)

module _ {K : Kind} (L : Lawful K) (n m : ℕ) (xs old : List ℤ) where
  abbrev fs : List (List K.Num)
  fs = rows_of n m (map K.counts xs)

  abbrev accepted : Result ℕ EliminationError × List ℤ → Type 0
  accepted a = IfOk a.0 (λ k. Fit n m (length xs) (length old) × (balances_of K n m xs ≡ Ok (rows_of k n (map K.counts a.1))))

  long : Fit n m (length xs) (length old) → AllByRecursion (λ f. length f ≡ m) fs
  long f = rows_long m n (map K.counts xs) (omega (arith, f.full, length-map xs K.counts))

  size : length fs ≡ n
  size = length_rows m n (map K.counts xs)

  read_answer : (x : Result (List (List K.Num)) ℕ) → balances_of K n m xs ≡ x → Fit n m (length xs) (length old) → accepted (answered K old x)
  read_answer (Ok ws) e f =
      let s = (shaped L m fs ws (long f) e).0 in
      let t = subst (λ z. AllByRecursion (λ w. (length w ≡ z) × (any_past K w ≡ false)) ws) size s in
      (f, e ∙ ap Ok (sym (rows_back L n (λ w. any_past K w ≡ false) ws (drop (length (flat_map (map K.writes) ws)) old) t)))
  read_answer (Err b) e f = tt

  read_solved : accepted (solved K n m xs old)
  unfolding solved
  read_solved = go (sizes_fit n m (length xs) (length old)) refl
    where
      go : (b : Bool) → b ≡ sizes_fit n m (length xs) (length old) → accepted (cond b (answered K old (balances_of K n m xs)) (Err Sizes, old))
      go true e = read_answer (balances_of K n m xs) refl (fits n m (length xs) (length old) e)
      go false e = tt

  -- what a call that answers so has written
  pub exact : (r : Result ℕ EliminationError) (new : List ℤ) → (r, new) ≡ solved K n m xs old → IfOk r (λ k. Exact K n m xs k new)
  exact (Err x) new e = tt
  exact (Ok k) new e =
      let b : Fit n m (length xs) (length old) × (balances_of K n m xs ≡ Ok (rows_of k n (map K.counts new))) = subst accepted (sym e) read_solved in
      let ws = rows_of k n (map K.counts new) in
      let s = shaped L m fs ws (long b.0) b.1 in
      record {
        few = omega (arith, s.1, size, length_rows n k (map K.counts new));
        small = All-weaker (λ w. (length w ≡ length fs) × (any_past K w ≡ false)) (λ w. any_past K w ≡ false) (λ w h. h.1) ws s.0;
        signed = signed L m fs ws b.1;
        sound = sound L m fs ws b.1;
        exactly = λ w. subst (λ z. Vanishes K m fs w ↔ Made K z ws w) size (exactly L m fs ws b.1 w);
      }
