-- Rising forms are equal exactly when they come to the same in every row; the test for equal forms.
use Rattle.std.proofs.Common.{◌≡◌, ◌↔◌, IsTrue, ℕ, zero, suc, ◌/◌, ◌%◌, ◌<◌, Bool, true, false, ◌&&◌, eqb, ◌⊎◌, List, [], ◌∷◌, ℤ, pos, ◌+ℤ◌, ◌-ℤ◌, nat_abs, sym, refl, ap, ◌∙◌, subst, ap₂, inl, inr, arith}
use lib.Arith.{bin_ind}
use lib.IntN.{+ℤ_idr, +ℤ_invr, +ℤ_idl, -ℤ-+ℤ_cancel}
use Rattle.std.proofs.lemmas.Int.{ints}
use Rattle.std.proofs.lemmas.Bool.{cases_order, and_parts, and_from, eqb-true, eq-eqb, false≢true}
use Rattle.terms.specs.Forms.{Form, row_of, high, value, Rising, same}
use Rattle.terms.specs.Laws.{SameMeansEqual, Alike, Canonical}
use Rattle.terms.proofs.BitLaws.{low_above, high_self}
use Rattle.terms.proofs.Values.{share, null_true}

-- a form above the row comes to zero there
above_row : (lo r : ℕ) (p : Form) → r < lo → Rising lo p → value p r ≡ pos 0
above_row lo r [] h w = refl
above_row lo r (t ∷ p) h w =
    ap₂ (λ (b : Bool) (z : ℤ). share b t.1 +ℤ z) (low_above t.0 r (omega arith)) (above_row (suc t.0) r p (omega arith) w.2)

-- with its lowest term as the row, a form comes to that term's coefficient
pub lowest : (lo : ℕ) (t : ℕ × ℤ) (p : Form) → Rising lo (t ∷ p) → value (t ∷ p) t.0 ≡ t.1
lowest lo t p w =
    ap₂ (λ (b : Bool) (z : ℤ). share b t.1 +ℤ z) (high_self t.0) (above_row (suc t.0) t.0 p (omega arith) w.2)
    ∙ +ℤ_idr t.1

cancel : (a x y : ℤ) → a +ℤ x ≡ a +ℤ y → x ≡ y
cancel a x y e = omega (arith, ints)

pub equal_from : (lo : ℕ) (p q : Form) → Rising lo p → Rising lo q → ((r : ℕ) → value p r ≡ value q r) → p ≡ q
equal_from lo [] [] v w e = refl
equal_from lo [] (t ∷ q) v w e = absurd (w.1 (sym (lowest lo t q w) ∙ sym (e t.0)))
equal_from lo (s ∷ p) [] v w e = absurd (v.1 (sym (lowest lo s p v) ∙ e s.0))
equal_from lo (s ∷ p) (t ∷ q) v w e = go (equal_from (suc s.0) p q) (cases_order s.0 t.0)
  where
    go : (Rising (suc s.0) p → Rising (suc s.0) q → ((r : ℕ) → value p r ≡ value q r) → p ≡ q)
        → ((s.0 ≡ t.0) ⊎ ((s.0 < t.0) ⊎ (t.0 < s.0))) → (s ∷ p) ≡ (t ∷ q)
    go ih (inr (inl l)) = absurd (v.1 (sym (lowest lo s p v) ∙ e s.0 ∙ above_row t.0 s.0 (t ∷ q) l (omega arith, w.1, w.2)))
    go ih (inr (inr l)) = absurd (w.1 (sym (lowest lo t q w) ∙ sym (e t.0) ∙ above_row s.0 t.0 (s ∷ p) l (omega arith, v.1, v.2)))
    go ih (inl f) =
        let d : s.1 ≡ t.1 = sym (lowest lo s p v) ∙ e s.0 ∙ ap (value (t ∷ q)) f ∙ lowest lo t q w in
        let st : s ≡ t = λ i. (f i, d i) in
        ap₂ (λ (x : ℕ × ℤ) (y : Form). x ∷ y) st
        (ih v.2 (subst (λ (n : ℕ). Rising (suc n) q) (sym f) w.2)
        (λ r. cancel (share (high s.0 r) s.1) (value p r) (value q r)
        (e r ∙ ap (λ (u : ℕ × ℤ). share (high u.0 r) u.1 +ℤ value q r) (sym st))))

-- every number is that of a row
bit_row : (n : ℕ) (row : List Bool) (b : Bool) → eqb (n % 2) 1 ≡ b → row_of row ≡ n / 2 → row_of (b ∷ row) ≡ n
bit_row n row true e h = let f = eqb-true (n % 2) 1 e in omega arith
bit_row n row false e h = odd (n % 2) refl
  where
    odd : (m : ℕ) → n % 2 ≡ m → row_of (false ∷ row) ≡ n
    odd zero f = omega arith
    odd (suc zero) f = absurd (false≢true (sym e ∙ eq-eqb (n % 2) 1 f))
    odd (suc (suc m)) f = absurd (omega arith)

pub some_row : (n : ℕ) → (row : List Bool) × (row_of row ≡ n)
some_row =
    bin_ind (λ (n : ℕ). (row : List Bool) × (row_of row ≡ n)) ([], refl)
    (λ n ih. (eqb (n % 2) 1 ∷ ih.0, bit_row n ih.0 (eqb (n % 2) 1) refl ih.1))

pub canonical : Canonical
canonical p q v w = (
  (λ e row. ap (λ (x : Form). value x (row_of row)) e),
  (λ h. equal_from 0 p q v w (λ r. let s = some_row r in subst (λ (n : ℕ). value p n ≡ value q n) s.1 (h s.0))),
)

-- ---- the test

pub no_difference : (x y : ℤ) → eqb (nat_abs (x -ℤ y)) 0 ≡ true → x ≡ y
no_difference x y e = sym (-ℤ-+ℤ_cancel x y) ∙ ap (λ (d : ℤ). d +ℤ y) (null_true (x -ℤ y) e) ∙ +ℤ_idl y

found : (p q : Form) → same p q ≡ true → p ≡ q
found [] [] e = refl
found [] (u ∷ q) e = absurd (false≢true e)
found (t ∷ p) [] e = absurd (false≢true e)
found (t ∷ p) (u ∷ q) e =
    let a = and_parts (eqb t.0 u.0) (eqb (nat_abs (t.1 -ℤ u.1)) 0 && same p q) e in
    let b = and_parts (eqb (nat_abs (t.1 -ℤ u.1)) 0) (same p q) a.1 in
    let s = eqb-true t.0 u.0 a.0 in
    let c = no_difference t.1 u.1 b.0 in
    let h : t ≡ u = λ i. (s i, c i) in
    let r = found p q b.1 in
    λ i. h i ∷ r i

same_self : (p : Form) → same p p ≡ true
same_self [] = refl
same_self (t ∷ p) =
    and_from (eqb t.0 t.0) (eqb (nat_abs (t.1 -ℤ t.1)) 0 && same p p) (eq-eqb t.0 t.0 refl)
    (and_from (eqb (nat_abs (t.1 -ℤ t.1)) 0) (same p p) (ap (λ (z : ℤ). eqb (nat_abs z) 0) (+ℤ_invr t.1)) (same_self p))

pub same_means : SameMeansEqual
same_means p q = (found p q, λ e. subst (λ (x : Form). same p x ≡ true) e (same_self p))

-- an answer of the test, of any two forms, and of two rising ones
pub same_equal : (r : Bool) (p q : Form) → r ≡ same p q → IsTrue r ↔ (p ≡ q)
same_equal r p q e = ((λ f. found p q (sym e ∙ f)), (λ f. e ∙ (same_means p q).1 f))

pub same_alike : (r : Bool) (p q : Form) → r ≡ same p q → Rising 0 p → Rising 0 q → IsTrue r ↔ Alike p q
same_alike r p q e v w = ((λ f. (canonical p q v w).0 ((same_equal r p q e).0 f)), (λ h. (same_equal r p q e).1 ((canonical p q v w).1 h)))
