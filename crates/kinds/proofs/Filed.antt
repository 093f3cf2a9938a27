-- Kept rows filed by their lowest columns are independent. Assumes nothing.
use Rattle.std.proofs.Common.{◌≡◌, ℕ, zero, suc, ◌+◌, ◌<◌, ◌≤◌, ◌≢◌, ◌⊎◌, List, [], ◌∷◌, length, get_or, sym, refl, ap, ◌∙◌, subst, inl, inr, arith}
use native.Mathlib.Decide.{ℕ_discrete}
use Rattle.kinds.specs.Kinds.{Kind, Lawful}
use Rattle.kinds.specs.Elimination.{at}
use Rattle.kinds.specs.Completeness.{comb}
use Rattle.kinds.proofs.Filing.{put}
use Rattle.kinds.proofs.Ring.{zero_add, mul_zero, zero_mul, zero_more}

-- the row s may stand under the column j, where there are n weights
abbrev pub Slot : (K : Kind) → ℕ → ℕ → List K.Num → Type 0
Slot K n j s = (s ≡ []) ⊎ ((at K s (n + j) ≢ K.zero) × ((i : ℕ) → i < j → at K s (n + i) ≡ K.zero))

abbrev pub Filed : (K : Kind) → ℕ → List (List K.Num) → Type 0
Filed K n rows = (j : ℕ) → Slot K n j (get_or rows j [])

module _ {K : Kind} (L : Lawful K) where
  open K use {Num as A, zero as 𝟘, one as 𝟙, add as ◌⊕◌, mul as ◌⊗◌, neg as ⊖◌}

  infixl 6 ◌⊕◌
  infixl 7 ◌⊗◌
  pub slot_before : (n j i : ℕ) (s : List A) → Slot K n j s → i < j → at K s (n + i) ≡ 𝟘
  slot_before n j i s (inl e) h = ap (λ x. at K x (n + i)) e
  slot_before n j i s (inr k) h = k.1 i h

  -- rows that all have zero at a place
  pub comb_at_zero : (m : ℕ → A) (rows : List (List A)) (i : ℕ) → ((k : ℕ) → at K (get_or rows k []) i ≡ 𝟘) → comb K m rows i ≡ 𝟘
  comb_at_zero m [] i h = refl
  comb_at_zero m (r ∷ rows) i h =
      ap (λ x. (m zero ⊗ x) ⊕ comb K (λ j. m (suc j)) rows i) (h zero) ∙ zero_more L _ _ ∙ comb_at_zero (λ j. m (suc j)) rows i (λ k. h (suc k))

  -- the first multiple is of an empty row or zero
  head_gone : (n j : ℕ) (s : List A) (x : A) → Slot K n j s → x ⊗ at K s (n + j) ≡ 𝟘 → (i : ℕ) → x ⊗ at K s i ≡ 𝟘
  head_gone n j s x (inl e) h i = ap (λ y. x ⊗ at K y i) e ∙ mul_zero L x
  head_gone n j s x (inr k) h i = ap (λ y. y ⊗ at K s i) (L.no_divisors _ _ (L.mul_comm _ _ ∙ h) k.0) ∙ zero_mul L _

  pub independent : (n j : ℕ) (m : ℕ → A) (rows : List (List A)) → ((k : ℕ) → Slot K n (j + k) (get_or rows k [])) → ((k : ℕ) → k < length rows → comb K m rows (n + (j + k)) ≡ 𝟘) → (i : ℕ) → comb K m rows i ≡ 𝟘
  independent n j m [] slots h i = refl
  independent n j m (s ∷ rows) slots h i =
      let m' : ℕ → A = λ k. m (suc k) in
      let j0 : j + 0 ≡ j = omega arith in
      let up : (k : ℕ) → j + suc k ≡ suc j + k = λ k. omega arith in
      let first_slot : Slot K n j s = subst (λ x. Slot K n x s) j0 (slots zero) in
      let rest-zero : comb K m' rows (n + j) ≡ 𝟘 = comb_at_zero m' rows (n + j) (λ k. slot_before n (j + suc k) j (get_or rows k []) (slots (suc k)) (omega arith)) in
      let here : (m zero ⊗ at K s (n + j)) ⊕ comb K m' rows (n + j) ≡ 𝟘 = subst (λ x. comb K m (s ∷ rows) (n + x) ≡ 𝟘) j0 (h zero (omega arith)) in
      let pivot : m zero ⊗ at K s (n + j) ≡ 𝟘 = sym (L.add_zero _) ∙ ap (λ x. (m zero ⊗ at K s (n + j)) ⊕ x) (sym rest-zero) ∙ here in
      let gone : (i : ℕ) → m zero ⊗ at K s i ≡ 𝟘 = head_gone n j s (m zero) first_slot pivot in
      let drop_head : (i : ℕ) → comb K m (s ∷ rows) i ≡ comb K m' rows i = λ i. ap (λ x. x ⊕ comb K m' rows i) (gone i) ∙ zero_add L _ in
      drop_head i ∙ independent n (suc j) m' rows
      (λ k. subst (λ x. Slot K n x (get_or rows k [])) (up k) (slots (suc k)))
      (λ k l. subst (λ x. comb K m' rows (n + x) ≡ 𝟘) (up k) (sym (drop_head (n + (j + suc k))) ∙ h (suc k) (omega arith))) i

-- putting a row in its place
pub put_same : {A : Type 0} (rows : List (List A)) (j : ℕ) (r : List A) → get_or (put rows j r) j [] ≡ r
put_same [] zero r = refl
put_same [] (suc j) r = put_same [] j r
put_same (s ∷ rows) zero r = refl
put_same (s ∷ rows) (suc j) r = put_same rows j r

pub put_other : {A : Type 0} (rows : List (List A)) (j : ℕ) (r : List A) (k : ℕ) → k ≢ j → get_or (put rows j r) k [] ≡ get_or rows k []
put_other [] zero r zero h = absurd (h refl)
put_other [] zero r (suc k) h = refl
put_other [] (suc j) r zero h = refl
put_other [] (suc j) r (suc k) h = put_other [] j r k (λ e. h (ap suc e))
put_other (s ∷ rows) zero r zero h = absurd (h refl)
put_other (s ∷ rows) zero r (suc k) h = refl
put_other (s ∷ rows) (suc j) r zero h = refl
put_other (s ∷ rows) (suc j) r (suc k) h = put_other rows j r k (λ e. h (ap suc e))

-- what holds at each place still does, where it holds of the row that is put
pub put_all : {A : Type 0} (P : ℕ → List A → Type 0) (rows : List (List A)) (j : ℕ) (r : List A) → ((k : ℕ) → P k (get_or rows k [])) → P j r → (k : ℕ) → P k (get_or (put rows j r) k [])
put_all P rows j r h p k = go (ℕ_discrete k j)
  where
    go : Dec (k ≡ j) → P k (get_or (put rows j r) k [])
    go (yes e) = subst (λ x. P x (get_or (put rows j r) x [])) (sym e) (subst (P j) (sym (put_same rows j r)) p)
    go (no n) = subst (P k) (sym (put_other rows j r k n)) (h k)

pub put_length : {A : Type 0} (rows : List (List A)) (j m : ℕ) (r : List A) → length rows ≤ m → j < m → length (put rows j r) ≤ m
put_length [] zero m r h l = omega arith
put_length [] (suc j) zero r h l = absurd (omega arith)
put_length [] (suc j) (suc m) r h l = let ih : length (put [] j r) ≤ m = put_length [] j m r (omega arith) (omega arith) in omega arith
put_length (s ∷ rows) zero m r h l = omega arith
put_length (s ∷ rows) (suc j) zero r h l = absurd (omega arith)
put_length (s ∷ rows) (suc j) (suc m) r h l = let ih : length (put rows j r) ≤ m = put_length rows j m r (omega arith) (omega arith) in omega arith
