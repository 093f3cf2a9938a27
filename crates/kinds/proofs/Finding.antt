-- Elimination finds every balance. Assumes nothing.
use Rattle.std.proofs.Common.{◌≡◌, ℕ, zero, suc, ◌+◌, ◌<◌, ◌≤◌, Bool, true, false, cond, ◌≢◌, ◌↔◌, List, [], ◌∷◌, ◌++◌, length, get_or, take, replicate, Ok, Err, Result, sym, refl, ap, ◌∙◌, subst, ap₂, inl, inr, arith}
use native.Mathlib.Nat as NatL
use Rattle.std.specs.List.{AllByRecursion}
use Rattle.std.proofs.lemmas.Bool.{cond-true, cond-false}
use Rattle.std.proofs.lemmas.List.{get_or-take}
use Rattle.kinds.specs.Kinds.{Kind, Lawful}
use Rattle.kinds.specs.Elimination.{at, unit, starts, any_past, leads_below, Handled, kept, balance, passes}
use Rattle.kinds.proofs.Filing.{put, filed_handled, by_case, with_balance, filed_eliminated, filed_eliminate}
use Rattle.kinds.specs.Completeness.{comb, Vanishes, Made, LeadsAbove}
use Rattle.kinds.proofs.Ring.{add_left_comm, mul_left_comm, zero_add, one_mul, mul_zero, zero_mul, zero_more, none_more, zero_or, nonzero_found, mul_nonzero}
use Rattle.kinds.proofs.Comb.{comb_lin, comb_none, comb_same, Span, span_zero, span_lin, span_put, first}
use Rattle.kinds.proofs.Filed.{Slot, Filed, comb_at_zero, independent, put_all, put_length}
use Rattle.kinds.proofs.Handling.{Reached, Law, Good, Told, told}

-- ---- the starting rows
module _ {K : Kind} (L : Lawful K) where
  open K use {Num as A, zero as 𝟘, one as 𝟙, add as ◌⊕◌, mul as ◌⊗◌}

  infixl 6 ◌⊕◌
  infixl 7 ◌⊗◌
  zeros_front : (n i : ℕ) (f : List A) → i < n → at K (replicate n 𝟘 ++ f) i ≡ 𝟘
  zeros_front zero i f h = absurd (omega arith)
  zeros_front (suc n) zero f h = refl
  zeros_front (suc n) (suc i) f h = zeros_front n i f (omega arith)

  zeros_back : (n j : ℕ) (f : List A) → at K (replicate n 𝟘 ++ f) (n + j) ≡ at K f j
  zeros_back zero j f = ap (at K f) (NatL.zero-add j)
  zeros_back (suc n) j f = ap (at K (𝟘 ∷ (replicate n 𝟘 ++ f))) (NatL.suc-add n j) ∙ zeros_back n j f

  unit_back : (n b j : ℕ) (f : List A) → at K (unit K n b ++ f) (n + j) ≡ at K f j
  unit_back zero b j f = ap (at K f) (NatL.zero-add j)
  unit_back (suc n) zero j f = ap (at K (𝟙 ∷ (replicate n 𝟘 ++ f))) (NatL.suc-add n j) ∙ zeros_back n j f
  unit_back (suc n) (suc b) j f = ap (at K (𝟘 ∷ (unit K n b ++ f))) (NatL.suc-add n j) ∙ unit_back n b j f

  unit_same : (n b : ℕ) (f : List A) → b < n → at K (unit K n b ++ f) b ≡ 𝟙
  unit_same zero b f h = absurd (omega arith)
  unit_same (suc n) zero f h = refl
  unit_same (suc n) (suc b) f h = unit_same n b f (omega arith)

  unit_other : (n b i : ℕ) (f : List A) → i < n → i ≢ b → at K (unit K n b ++ f) i ≡ 𝟘
  unit_other zero b i f h ne = absurd (omega arith)
  unit_other (suc n) zero zero f h ne = absurd (ne refl)
  unit_other (suc n) zero (suc i) f h ne = zeros_front n i f (omega arith)
  unit_other (suc n) (suc b) zero f h ne = refl
  unit_other (suc n) (suc b) (suc i) f h ne = unit_other n b i f (omega arith) (λ e. ne (ap suc e))

  -- the multiples past the rows do not count
  comb_below : (x y : ℕ → A) (rs : List (List A)) (i : ℕ) → ((k : ℕ) → k < length rs → x k ≡ y k) → comb K x rs i ≡ comb K y rs i
  comb_below x y [] i h = refl
  comb_below x y (r ∷ rs) i h = ap₂ (λ u v. (u ⊗ at K r i) ⊕ v) (h zero (omega arith)) (comb_below (λ j. x (suc j)) (λ j. y (suc j)) rs i (λ k l. h (suc k) (omega arith)))

  comb_unit : (fs : List (List A)) (b j : ℕ) (f : List A) → comb K (at K (unit K (length fs) b ++ f)) fs j ≡ at K (get_or fs b []) j
  comb_unit [] b j f = refl
  comb_unit (g ∷ gs) zero j f =
      ap₂ (λ u v. u ⊕ v) (one_mul L _) (comb_below (λ k. at K (replicate (length gs) 𝟘 ++ f) k) (λ k. 𝟘) gs j (λ k h. zeros_front (length gs) k f h) ∙ comb_none L gs j) ∙ L.add_zero _
  comb_unit (g ∷ gs) (suc b) j f = none_more L _ _ ∙ comb_unit gs b j f

  starts_back : (n b : ℕ) (w : ℕ → A) (fs : List (List A)) (j : ℕ) → comb K w (starts K n b fs) (n + j) ≡ comb K w fs j
  starts_back n b w [] j = refl
  starts_back n b w (f ∷ fs) j = ap₂ (λ u v. (w zero ⊗ u) ⊕ v) (unit_back n b j f) (starts_back n (suc b) (λ k. w (suc k)) fs j)

  starts_before : (n b : ℕ) (w : ℕ → A) (fs : List (List A)) (i : ℕ) → i < b → i < n → comb K w (starts K n b fs) i ≡ 𝟘
  starts_before n b w [] i h l = refl
  starts_before n b w (f ∷ fs) i h l =
      ap₂ (λ u v. (w zero ⊗ u) ⊕ v) (unit_other n b i f l (omega arith)) (starts_before n (suc b) (λ k. w (suc k)) fs i (omega arith) l) ∙ L.add_zero _ ∙ mul_zero L _

  starts_at : (n b : ℕ) (w : ℕ → A) (fs : List (List A)) (k : ℕ) → b + length fs ≡ n → k < length fs → comb K w (starts K n b fs) (b + k) ≡ w k
  starts_at n b w [] k e h = absurd (omega arith)
  starts_at n b w (f ∷ fs) zero e h =
      let z : b + 0 ≡ b = omega arith in
      ap (λ i. comb K w (starts K n b (f ∷ fs)) i) z
      ∙ ap₂ (λ u v. (w zero ⊗ u) ⊕ v) (unit_same n b f (omega arith)) (starts_before n (suc b) (λ k. w (suc k)) fs b (omega arith) (omega arith)) ∙ L.add_zero _ ∙ L.mul_one _
  starts_at n b w (f ∷ fs) (suc k) e h =
      let z : b + suc k ≡ suc b + k = omega arith in
      ap₂ (λ u i. (w zero ⊗ u) ⊕ comb K (λ k. w (suc k)) (starts K n (suc b) fs) i) (unit_other n b (b + suc k) f (omega arith) (omega arith)) z
      ∙ zero_more L _ _ ∙ starts_at n (suc b) (λ k. w (suc k)) fs k (omega arith) (omega arith)

  starts_law : (fs : List (List A)) (b : ℕ) (gs : List (List A)) → ((k : ℕ) → get_or gs k [] ≡ get_or fs (b + k) []) → AllByRecursion (Law K (length fs) fs) (starts K (length fs) b gs)
  starts_law fs b [] h = tt
  starts_law fs b (g ∷ gs) h =
      let z : b + 0 ≡ b = omega arith in
      let up : (k : ℕ) → b + suc k ≡ suc b + k = λ k. omega arith in
      let here : g ≡ get_or fs b [] = h zero ∙ ap (λ x. get_or fs x []) z in
      (λ j. unit_back (length fs) b j g ∙ ap (λ x. at K x j) here ∙ sym (comb_unit fs b j g), starts_law fs (suc b) gs (λ k. h (suc k) ∙ ap (λ x. get_or fs x []) (up k)))

-- ---- a run of elimination: what it kept and what it found
pub data Run (K : Kind) (n m : ℕ) (fs : List (List K.Num)) : List (List K.Num) → List (List K.Num) → List (List K.Num) → Type 0 where
  done : {rows : List (List K.Num)} → Filed K n rows → length rows ≤ m → Run K n m fs rows [] []
  keeps : {rows rs ws : List (List K.Num)} {r : List K.Num} (j : ℕ) (q : List K.Num)
      → Reached K rows r q → get_or rows j [] ≡ [] → Run K n m fs (put rows j q) rs ws → Run K n m fs rows (r ∷ rs) ws
  finds : {rows rs ws : List (List K.Num)} {r : List K.Num} (q : List K.Num)
      → Reached K rows r q → ((i : ℕ) → i < m → at K q (n + i) ≡ K.zero) → leads_below K n q ≡ false → Law K n fs q → Run K n m fs rows rs ws → Run K n m fs rows (r ∷ rs) (take n q ∷ ws)

module _ {K : Kind} (L : Lawful K) (n m : ℕ) (fs : List (List K.Num)) where
  open K use {Num as A, zero as 𝟘, one as 𝟙}

  is_balances : Result (List (List A)) ℕ → Type 0
  is_balances (Ok ws) = Unit {0}
  is_balances (Err b) = ⊥

  not_refused : {b : ℕ} {ws : List (List A)} → Err b ≡ Ok ws → ⊥
  unfolding is_balances
  not_refused e = subst is_balances (sym e) tt

  the_list : Result (List (List A)) ℕ → List (List A)
  the_list (Ok ws) = ws
  the_list (Err b) = []

  same_list : {xs ys : List (List A)} → ◌≡◌ {A = Result (List (List A)) ℕ} (Ok xs) (Ok ys) → xs ≡ ys
  unfolding the_list
  same_list e = ap the_list e

  abbrev Runs : List (List A) → Type 0
  Runs rs =
      (rows : List (List A)) (b : ℕ) (ws : List (List A)) → Filed K n rows → ((j : ℕ) → Law K n fs (get_or rows j [])) → length rows ≤ m → AllByRecursion (Law K n fs) rs
      → filed_eliminated K n m rows b rs ≡ Ok ws → Run K n m fs rows rs ws

  run_step : (r : List A) (rs : List (List A)) → Runs rs → Runs (r ∷ rs)
  unfolding filed_eliminated
  run_step r rs ih rows b ws filed laws short all e = past_or (any_past K r) e
    where
      with_or : (q : List A) (a : Result (List (List A)) ℕ) → ((xs : List (List A)) → a ≡ Ok xs → Run K n m fs rows rs xs) → Good K n fs rows r q → ((i : ℕ) → i < m → at K q (n + i) ≡ 𝟘) → leads_below K n q ≡ false → with_balance (take n q) a ≡ Ok ws → Run K n m fs rows (r ∷ rs) ws
      with_or q (Ok xs) f g z l e = subst (λ x. Run K n m fs rows (r ∷ rs) x) (same_list e) (finds q g.reached z l (g.law all.0) (f xs refl))
      with_or q (Err x) f g z l e = absurd (not_refused e)

      case : (h : Handled A) → Told K n m fs rows r h → by_case (λ j q. filed_eliminated K n m (put rows j q) (suc b) rs) (λ q. with_balance (take n q) (filed_eliminated K n m rows (suc b) rs)) (Err b) h ≡ Ok ws → Run K n m fs rows (r ∷ rs) ws
      case (kept j q) t e =
          keeps j q t.0.reached t.2
          (ih (put rows j q) (suc b) ws (put_all (Slot K n) rows j q filed (inr (t.3, t.4))) (put_all (λ _ s. Law K n fs s) rows j q laws (t.0.law all.0)) (put_length rows j m q short t.1) all.1 e)
      case (balance q) t e = with_or q (filed_eliminated K n m rows (suc b) rs) (λ xs x. ih rows (suc b) xs filed laws short all.1 x) t.0 t.1 t.2 e
      case passes t e = absurd (not_refused e)

      past_or : (p : Bool) → cond p (Err b) (by_case (λ j q. filed_eliminated K n m (put rows j q) (suc b) rs) (λ q. with_balance (take n q) (filed_eliminated K n m rows (suc b) rs)) (Err b) (filed_handled K n rows m 0 r)) ≡ Ok ws → Run K n m fs rows (r ∷ rs) ws
      past_or true e = absurd (not_refused e)
      past_or false e = case (filed_handled K n rows m 0 r) (told L n m fs rows filed laws m 0 r (omega arith) (λ i h. absurd (omega arith))) e

  pub run : (rs : List (List A)) → Runs rs
  unfolding filed_eliminated
  run [] rows b ws filed laws short all e = subst (λ x. Run K n m fs rows [] x) (same_list e) (done filed short)
  run (r ∷ rs) rows b ws filed laws short all e = run_step r rs (run rs) rows b ws filed laws short all e

-- ---- what a run gives
module _ {K : Kind} (L : Lawful K) (m : ℕ) (fs : List (List K.Num)) where
  open K use {Num as A, zero as 𝟘, one as 𝟙, add as ◌⊕◌, mul as ◌⊗◌}

  infixl 6 ◌⊕◌
  infixl 7 ◌⊗◌
  abbrev n : ℕ
  n = length fs

  pub run_sound : {rows rs ws : List (List A)} → Run K n m fs rows rs ws → AllByRecursion (λ w. Vanishes K m fs (at K w)) ws
  run_sound (done f s) = tt
  run_sound (keeps j q r e k) = run_sound k
  run_sound (finds q r z l law k) = (λ j h. comb_below L (at K (take n q)) (at K q) fs j (λ i l. get_or-take n q i 𝟘 l) ∙ sym (law j) ∙ z j h, run_sound k)

  comb_scale : (k : A) (w : ℕ → A) (rs : List (List A)) (i : ℕ) → comb K (λ x. k ⊗ w x) rs i ≡ k ⊗ comb K w rs i
  comb_scale k w [] i = sym (mul_zero L k)
  comb_scale k w (r ∷ rs) i =
      ap₂ (λ u v. u ⊕ v) (L.mul_assoc k (w zero) (at K r i)) (comb_scale k (λ x. w (suc x)) rs i) ∙ sym (L.mul_add k _ _)

  spread : (k u w r c d q t : A) → k ⊗ r ≡ (d ⊗ q) ⊕ t → k ⊗ (u ⊕ ((w ⊗ r) ⊕ c)) ≡ ((w ⊗ d) ⊗ q) ⊕ (((k ⊗ u) ⊕ (w ⊗ t)) ⊕ (k ⊗ c))
  spread k u w r c d q t h =
      L.mul_add k u _ ∙ ap (λ x. (k ⊗ u) ⊕ x) (L.mul_add k _ c ∙ ap (λ x. x ⊕ (k ⊗ c)) (mul_left_comm L k w r ∙ ap (λ x. w ⊗ x) h))
      ∙ simp (L.mul_add, L.mul_assoc, L.add_assoc, L.add_comm, add_left_comm L)

  pub run_complete : {rows rs ws : List (List A)} → Run K n m fs rows rs ws → (u : ℕ → A) → Span K rows u → (w : ℕ → A) → ((j : ℕ) → j < m → u (n + j) ⊕ comb K w rs (n + j) ≡ 𝟘) → Made K n ws (λ i. u i ⊕ comb K w rs i)
  run_complete (done {rows = rows} filed short) u s w h =
      let z : (k : ℕ) → 0 + k ≡ k = λ k. omega arith in
      let gone : (i : ℕ) → comb K s.by rows i ≡ 𝟘 = independent L n 0 s.by rows
      (λ k. subst (λ x. Slot K n x (get_or rows k [])) (sym (z k)) (filed k))
      (λ k l. subst (λ x. comb K s.by rows (n + x) ≡ 𝟘) (sym (z k)) (sym (s.is (n + k)) ∙ sym (L.add_zero _) ∙ h k (omega arith))) in
      record { factor = 𝟙; nonzero = L.one_nonzero; multiples = λ j. 𝟘; sum = λ i l. one_mul L _ ∙ L.add_zero _ ∙ s.is i ∙ gone i }
  run_complete (keeps {rows = rows} {rs = rs} {ws = ws} {r = r} j q c e k) u s w h =
      let f : A = c.factor in
      let w' : ℕ → A = λ x. w (suc x) in
      let v : ℕ → A = λ i. (f ⊗ u i) ⊕ (w zero ⊗ c.rest i) in
      let u' : ℕ → A = λ i. ((w zero ⊗ c.scale) ⊗ at K q i) ⊕ v i in
      let all : (i : ℕ) → f ⊗ (u i ⊕ ((w zero ⊗ at K r i) ⊕ comb K w' rs i)) ≡ u' i ⊕ comb K (λ x. f ⊗ w' x) rs i = λ i.
      spread f (u i) (w zero) (at K r i) (comb K w' rs i) c.scale (at K q i) (c.rest i) (c.is i) ∙ sym (L.add_assoc _ _ _) ∙ ap (λ x. u' i ⊕ x) (sym (comb_scale f w' rs i)) in
      let made : Made K n ws (λ i. u' i ⊕ comb K (λ x. f ⊗ w' x) rs i) = run_complete k u' (span_put L rows j q (w zero ⊗ c.scale) v e (span_lin L f s (w zero) c.span)) (λ x. f ⊗ w' x)
      (λ i l. sym (all (n + i)) ∙ ap (λ x. f ⊗ x) (h i l) ∙ mul_zero L f) in
      record { factor = made.factor ⊗ f; nonzero = mul_nonzero L made.nonzero c.nonzero; multiples = made.multiples; sum = λ i l. L.mul_assoc _ _ _ ∙ ap (λ x. made.factor ⊗ x) (all i) ∙ made.sum i l }
  run_complete (finds {rows = rows} {rs = rs} {ws = ws} {r = r} q c z sign law k) u s w h =
      let f : A = c.factor in
      let a : A = w zero ⊗ c.scale in
      let w' : ℕ → A = λ x. w (suc x) in
      let v : ℕ → A = λ i. (f ⊗ u i) ⊕ (w zero ⊗ c.rest i) in
      let all : (i : ℕ) → f ⊗ (u i ⊕ ((w zero ⊗ at K r i) ⊕ comb K w' rs i)) ≡ (a ⊗ at K q i) ⊕ (v i ⊕ comb K (λ x. f ⊗ w' x) rs i) = λ i.
      spread f (u i) (w zero) (at K r i) (comb K w' rs i) c.scale (at K q i) (c.rest i) (c.is i) ∙ ap (λ x. (a ⊗ at K q i) ⊕ (v i ⊕ x)) (sym (comb_scale f w' rs i)) in
      let made : Made K n ws (λ i. v i ⊕ comb K (λ x. f ⊗ w' x) rs i) = run_complete k v (span_lin L f s (w zero) c.span) (λ x. f ⊗ w' x)
      (λ i l. sym (zero_more L a _) ∙ ap (λ x. (a ⊗ x) ⊕ (v (n + i) ⊕ comb K (λ x. f ⊗ w' x) rs (n + i))) (sym (z i l)) ∙ sym (all (n + i)) ∙ ap (λ x. f ⊗ x) (h i l) ∙ mul_zero L f) in
      record {
        factor = made.factor ⊗ f;
        nonzero = mul_nonzero L made.nonzero c.nonzero;
        multiples = first (made.factor ⊗ a) made.multiples;
        sum = λ i l.
            L.mul_assoc _ _ _ ∙ ap (λ x. made.factor ⊗ x) (all i) ∙ L.mul_add _ _ _
            ∙ ap₂ (λ x y. x ⊕ y) (sym (L.mul_assoc _ _ _) ∙ ap (λ x. (made.factor ⊗ a) ⊗ x) (sym (get_or-take n q i 𝟘 l))) (made.sum i l);
      }

module _ {K : Kind} (L : Lawful K) where
  open K use {Num as A, zero as 𝟘, one as 𝟙, add as ◌⊕◌, mul as ◌⊗◌}

  infixl 6 ◌⊕◌
  the_run : (m : ℕ) (fs ws : List (List A)) → filed_eliminate K m fs ≡ Ok ws → Run K (length fs) m fs [] (starts K (length fs) 0 fs) ws
  unfolding filed_eliminate
  the_run m fs ws e =
      run L (length fs) m fs (starts K (length fs) 0 fs) [] 0 ws (λ j. inl refl) (λ j i. sym (comb_none L fs i)) (omega arith)
      (starts_law L fs 0 fs (λ k. ap (λ x. get_or fs x []) (sym (NatL.zero-add k)))) e

  pub filed_sound : (m : ℕ) (fs ws : List (List A)) → filed_eliminate K m fs ≡ Ok ws → AllByRecursion (λ w. Vanishes K m fs (at K w)) ws
  filed_sound m fs ws e = run_sound L m fs (the_run m fs ws e)

  filed_complete : (m : ℕ) (fs ws : List (List A)) → filed_eliminate K m fs ≡ Ok ws → (w : ℕ → A) → Vanishes K m fs w → Made K (length fs) ws w
  filed_complete m fs ws e w h =
      let n : ℕ = length fs in
      let rows : List (List A) = starts K n 0 fs in
      let made : Made K n ws (λ i. 𝟘 ⊕ comb K w rows i) = run_complete L m fs (the_run m fs ws e) (λ i. 𝟘) (span_zero L []) w
      (λ j l. zero_add L _ ∙ starts_back L n 0 w fs j ∙ h j l) in
      let same : (b : ℕ) → b < n → w b ≡ 𝟘 ⊕ comb K w rows b = λ b l.
      sym (starts_at L n 0 w fs b (NatL.zero-add n) l) ∙ ap (comb K w rows) (NatL.zero-add b) ∙ sym (zero_add L _) in
      record { factor = made.factor; nonzero = made.nonzero; multiples = made.multiples; sum = λ b l. ap (K.mul made.factor) (same b l) ∙ made.sum b l }

-- ---- the first nonzero weight of a balance
module _ {K : Kind} (L : Lawful K) where
  open K use {Num as A, zero as 𝟘, one as 𝟙, add as ◌⊕◌, mul as ◌⊗◌, is_zero}

  infixl 6 ◌⊕◌
  infixl 7 ◌⊗◌
  -- weights that are not all zero, and the first of which that is not is not below zero
  leads_above : (n : ℕ) (q : List A) (b : ℕ) → b < n → at K q b ≢ 𝟘 → leads_below K n q ≡ false → LeadsAbove K (take n q)
  leads_above zero q b h nz l = absurd (omega arith)
  leads_above (suc n) [] b h nz l = absurd (nz refl)
  leads_above (suc n) (x ∷ q) b h nz l = go (leads_above n q) (zero_or L x)
    where
      before : (f : LeadsAbove K (take n q)) → x ≡ 𝟘 → (i : ℕ) → i < suc f.first → at K (x ∷ take n q) i ≡ 𝟘
      before f z zero l = z
      before f z (suc i) l = f.zeros_before i (omega arith)

      one_more : x ≡ 𝟘 → LeadsAbove K (take n q) → LeadsAbove K (x ∷ take n q)
      one_more z f = record { first = suc f.first; nonzero = f.nonzero; not_below = f.not_below; zeros_before = before f z }

      later : ((b : ℕ) → b < n → at K q b ≢ 𝟘 → leads_below K n q ≡ false → LeadsAbove K (take n q)) → (b : ℕ) → b < suc n → at K (x ∷ q) b ≢ 𝟘 → x ≡ 𝟘 → LeadsAbove K (x ∷ take n q)
      later ih zero h nz z = absurd (nz z)
      later ih (suc b) h nz z = one_more z (ih b (omega arith) nz (sym (cond-true (is_zero x) (leads_below K n q) (K.below x) (ap is_zero z ∙ L.zero_found)) ∙ l))

      go : ((b : ℕ) → b < n → at K q b ≢ 𝟘 → leads_below K n q ≡ false → LeadsAbove K (take n q)) → Dec (x ≡ 𝟘) → LeadsAbove K (x ∷ take n q)
      go ih (yes z) = later ih b h nz z
      go ih (no x_nonzero) =
          record { first = 0; nonzero = x_nonzero; not_below = sym (cond-false (is_zero x) (leads_below K n q) (K.below x) (nonzero_found L x x_nonzero)) ∙ l; zeros_before = λ i l. absurd (omega arith) }

  -- a row has weight at its own place, where no kept row has any
  own : (rows : List (List A)) (r q : List A) (b : ℕ) → Reached K rows r q → ((k : ℕ) → at K (get_or rows k []) b ≡ 𝟘) → at K r b ≢ 𝟘 → (at K q b ≢ 𝟘)
  own rows r q b c h nz e =
      mul_nonzero L c.nonzero nz
      (c.is b ∙ ap₂ (λ u v. u ⊕ v) (ap (λ u. c.scale ⊗ u) e ∙ mul_zero L c.scale) (c.span.is b ∙ comb_at_zero L c.span.by rows b h) ∙ L.add_zero 𝟘)

  -- and none at a later place
  none_later : (rows : List (List A)) (r q : List A) (b i : ℕ) → Reached K rows r q → ((k : ℕ) → at K (get_or rows k []) b ≡ 𝟘) → at K r b ≢ 𝟘 → ((k : ℕ) → at K (get_or rows k []) i ≡ 𝟘) → at K r i ≡ 𝟘 → at K q i ≡ 𝟘
  none_later rows r q b i c hb nz hi z =
      let scale_nonzero : c.scale ≢ 𝟘 = λ e.
      mul_nonzero L c.nonzero nz (c.is b ∙ ap₂ (λ u v. u ⊕ v) (ap (λ u. u ⊗ at K q b) e ∙ zero_mul L (at K q b)) (c.span.is b ∙ comb_at_zero L c.span.by rows b hb) ∙ L.add_zero 𝟘) in
      let gone : c.rest i ≡ 𝟘 = c.span.is i ∙ comb_at_zero L c.span.by rows i hi in
      L.no_divisors c.scale (at K q i)
      (sym (ap (λ u. (c.scale ⊗ at K q i) ⊕ u) gone ∙ L.add_zero _) ∙ sym (c.is i) ∙ ap (λ u. c.factor ⊗ u) z ∙ mul_zero L c.factor)
      scale_nonzero

  -- rows that each have weight at their own place, the first at b, and none at later places
  abbrev Fresh : ℕ → ℕ → List (List A) → Type 0
  Fresh n b [] = Unit {0}
  Fresh n b (r ∷ rs) = ((b < n) × (at K r b ≢ 𝟘) × ((i : ℕ) → b < i → i < n → at K r i ≡ 𝟘)) × Fresh n (suc b) rs

  starts_fresh : (n b : ℕ) (fs : List (List A)) → b + length fs ≤ n → Fresh n b (starts K n b fs)
  starts_fresh n b [] h = tt
  starts_fresh n b (f ∷ fs) h =
      ((omega arith, λ e. L.one_nonzero (sym (unit_same L n b f (omega arith)) ∙ e), λ i l u. unit_other L n b i f u (omega arith)), starts_fresh n (suc b) fs (omega arith))

  run_signed : {n m : ℕ} {fs rows rs ws : List (List A)} → Run K n m fs rows rs ws → (b : ℕ) → ((k i : ℕ) → b ≤ i → i < n → at K (get_or rows k []) i ≡ 𝟘) → Fresh n b rs → AllByRecursion (LeadsAbove K) ws
  run_signed (done f s) b h fresh = tt
  run_signed {n} (keeps {rows = rows} {r = r} j q c e k) b h fresh =
      let here : (x : ℕ) → at K (get_or rows x []) b ≡ 𝟘 = λ x. h x b (omega arith) fresh.0.0 in
      run_signed k (suc b)
      (λ x i l u. put_all (λ _ s. at K s i ≡ 𝟘) rows j q (λ y. h y i (omega arith) u) (none_later rows r q b i c here fresh.0.1 (λ y. h y i (omega arith) u) (fresh.0.2 i (omega arith) u)) x)
      fresh.1
  run_signed {n} (finds {rows = rows} {r = r} q c z l law k) b h fresh =
      (leads_above n q b fresh.0.0 (own rows r q b c (λ x. h x b (omega arith) fresh.0.0) fresh.0.1) l, run_signed k (suc b) (λ x i l u. h x i (omega arith) u) fresh.1)

  pub filed_signed : (m : ℕ) (fs ws : List (List A)) → filed_eliminate K m fs ≡ Ok ws → AllByRecursion (LeadsAbove K) ws
  filed_signed m fs ws e = run_signed (the_run L m fs ws e) 0 (λ k i l u. refl) (starts_fresh (length fs) 0 fs (omega arith))

-- ---- the other way round
module _ {K : Kind} (L : Lawful K) (m : ℕ) (fs : List (List K.Num)) where
  open K use {Num as A, zero as 𝟘, one as 𝟙, add as ◌⊕◌, mul as ◌⊗◌}

  infixl 6 ◌⊕◌
  infixl 7 ◌⊗◌
  sums_vanish : (ws : List (List A)) → AllByRecursion (λ w. Vanishes K m fs (at K w)) ws → (x : ℕ → A) (j : ℕ) → j < m → comb K (λ b. comb K x ws b) fs j ≡ 𝟘
  sums_vanish [] all x j h = comb_none L fs j
  sums_vanish (w ∷ ws) all x j h =
      let x' : ℕ → A = λ k. x (suc k) in
      comb_same L (λ b. ap (λ y. (x zero ⊗ at K w b) ⊕ y) (sym (one_mul L (comb K x' ws b)))) fs j
      ∙ comb_lin L (x zero) (at K w) 𝟙 (λ b. comb K x' ws b) fs j
      ∙ ap₂ (λ y z. (x zero ⊗ y) ⊕ (𝟙 ⊗ z)) (all.0 j h) (sums_vanish ws all.1 x' j h) ∙ zero_more L _ _ ∙ mul_zero L _

  pub made_vanishes : (ws : List (List A)) → AllByRecursion (λ w. Vanishes K m fs (at K w)) ws → (w : ℕ → A) → Made K (length fs) ws w → Vanishes K m fs w
  made_vanishes ws all w made j h =
      L.no_divisors made.factor _
      (sym (comb_scale L m fs made.factor w fs j) ∙ comb_below L (λ b. made.factor ⊗ w b) (λ b. comb K made.multiples ws b) fs j made.sum ∙ sums_vanish ws all made.multiples j h)
      made.nonzero

pub filed_exactly : {K : Kind} (L : Lawful K) (m : ℕ) (fs ws : List (List K.Num)) → filed_eliminate K m fs ≡ Ok ws → (w : ℕ → K.Num) → Vanishes K m fs w ↔ Made K (length fs) ws w
filed_exactly L m fs ws e w = (filed_complete L m fs ws e w, made_vanishes L m fs ws (filed_sound L m fs ws e) w)
