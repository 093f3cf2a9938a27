-- insert, by the place where it happens; and records beside entries.
use Rattle.std.proofs.Common.{◌≡◌, ℕ, zero, suc, ◌+◌, ◌-◌, ◌<◌, ◌≤◌, Bool, true, false, cond, eqb, ltb, List, [], ◌∷◌, ◌++◌, length, get_or, take, drop, set, ℤ, ◌+ℤ◌, nat_abs, sym, refl, ap, ◌∙◌, add-one, arith}
use Rattle.std.specs.List.{insert as inserted, remove}
use Rattle.std.proofs.lemmas.List.{take_at, length-take-le}
use Rattle.std.proofs.lemmas.Bool.{cond-true, cond-false, lt-ltb, le-ltb}
use Rattle.terms.specs.declared.term.Term.{Term}
use Rattle.terms.specs.Sets.{number_of}
use Rattle.terms.specs.Forms.{Form, insert, keep}
use Rattle.terms.specs.Records.{entry_of, form_in}
use Rattle.terms.specs.Editing.{Placed, opened, closed}
use Rattle.std.proofs.lemmas.List.Edits.{length-insert, length-remove}

-- s stands strictly between the terms before place i and the term at it
abbrev pub Gap : ℕ → Form → ℕ → Type 0
Gap s [] zero = Unit {0}
Gap s [] (suc i) = ⊥
Gap s (t ∷ p) zero = s < t.0
Gap s (t ∷ p) (suc i) = (t.0 < s) × Gap s p i

-- s is the set at place i, with coefficient d, and the terms before are below
abbrev pub Hit : ℕ → ℤ → Form → ℕ → Type 0
Hit s d [] i = ⊥
Hit s d (t ∷ p) zero = (t.0 ≡ s) × (t.1 ≡ d)
Hit s d (t ∷ p) (suc i) = (t.0 < s) × Hit s d p i

insert_past : (s : ℕ) (c : ℤ) (t : ℕ × ℤ) (p : Form) → t.0 < s → insert s c (t ∷ p) ≡ t ∷ insert s c p
insert_past s c t p h =
    cond-false (ltb s t.0) (keep s c (t ∷ p)) (cond (ltb t.0 s) (t ∷ insert s c p) (keep s (c +ℤ t.1) p)) (le-ltb s t.0 (omega arith))
    ∙ cond-true (ltb t.0 s) (t ∷ insert s c p) (keep s (c +ℤ t.1) p) (lt-ltb t.0 s h)

cond_cons : (b : Bool) (t : ℕ × ℤ) (x y : Form) → t ∷ cond b x y ≡ cond b (t ∷ x) (t ∷ y)
cond_cons true t x y = refl
cond_cons false t x y = refl

pub insert_gap : (s : ℕ) (c : ℤ) (p : Form) (i : ℕ) → Gap s p i → insert s c p ≡ cond (eqb (nat_abs c) 0) p (inserted p i (s, c))
insert_gap s c [] zero g = refl
insert_gap s c [] (suc i) g = absurd g
insert_gap s c (t ∷ p) zero g =
    cond-true (ltb s t.0) (keep s c (t ∷ p)) (cond (ltb t.0 s) (t ∷ insert s c p) (keep s (c +ℤ t.1) p)) (lt-ltb s t.0 g)
insert_gap s c (t ∷ p) (suc i) g =
    insert_past s c t p g.0 ∙ ap (λ (x : Form). t ∷ x) (insert_gap s c p i g.1) ∙ cond_cons (eqb (nat_abs c) 0) t p (inserted p i (s, c))

pub insert_hit : (s : ℕ) (c d : ℤ) (p : Form) (i : ℕ) → Hit s d p i → insert s c p ≡ cond (eqb (nat_abs (c +ℤ d)) 0) (remove p i) (set p i (s, c +ℤ d))
insert_hit s c d [] i g = absurd g
insert_hit s c d (t ∷ p) zero g =
    cond-false (ltb s t.0) (keep s c (t ∷ p)) (cond (ltb t.0 s) (t ∷ insert s c p) (keep s (c +ℤ t.1) p)) (le-ltb s t.0 (omega (arith, g.0)))
    ∙ cond-false (ltb t.0 s) (t ∷ insert s c p) (keep s (c +ℤ t.1) p) (le-ltb t.0 s (omega (arith, g.0)))
    ∙ ap (λ (x : ℤ). keep s (c +ℤ x) p) g.1
insert_hit s c d (t ∷ p) (suc i) g =
    insert_past s c t p g.0 ∙ ap (λ (x : Form). t ∷ x) (insert_hit s c d p i g.1)
    ∙ cond_cons (eqb (nat_abs (c +ℤ d)) 0) t (remove p i) (set p i (s, c +ℤ d))

-- ---- records

drop_first : {s n i : ℕ} {w : Term} {W : List Term} → Placed s (suc n) (w ∷ W) (suc i) → Placed s n W i
drop_first h = record {
  within = omega arith;
  before = λ k d l. h.before (suc k) d (omega arith);
  here = λ d l. h.here d (omega arith);
}

pub gap_of : (s : ℕ) (z : Term) (W : List Term) (n i : ℕ) → n ≤ length W → Placed s n W i → (i < n → number_of (get_or W i z).set ≡ s → ⊥) → Gap s (form_in (take n W)) i
gap_of s z W zero zero h p e = tt
gap_of s z W zero (suc i) h p e = absurd (omega (arith, p.within))
gap_of s z [] (suc n) i h p e = absurd (omega arith)
gap_of s z (w ∷ W) (suc n) zero h p e = let l = p.here z (omega arith) in let m = e (omega arith) in omega arith
gap_of s z (w ∷ W) (suc n) (suc i) h p e =
    (p.before 0 z (omega arith), gap_of s z W n i (omega arith) (drop_first p) (λ l. e (omega arith)))

pub hit_of : (s : ℕ) (z : Term) (W : List Term) (n i : ℕ) → n ≤ length W → Placed s n W i → i < n → number_of (get_or W i z).set ≡ s → Hit s (get_or W i z).coefficient (form_in (take n W)) i
hit_of s z W zero i h p l e = absurd (omega arith)
hit_of s z [] (suc n) i h p l e = absurd (omega arith)
hit_of s z (w ∷ W) (suc n) zero h p l e = (e, refl)
hit_of s z (w ∷ W) (suc n) (suc i) h p l e = (p.before 0 z (omega arith), hit_of s z W n i (omega arith) (drop_first p) (omega arith) e)

form_inserted : (W : List Term) (n i : ℕ) (t : Term) → n ≤ length W → i ≤ n → form_in (take (suc n) (inserted W i t)) ≡ inserted (form_in (take n W)) i (entry_of t)
form_inserted W n zero t h l = refl
form_inserted W zero (suc i) t h l = absurd (omega arith)
form_inserted [] (suc n) (suc i) t h l = absurd (omega arith)
form_inserted (w ∷ W) (suc n) (suc i) t h l = ap (λ (x : Form). entry_of w ∷ x) (form_inserted W n i t (omega arith) (omega arith))

form_removed : (W : List Term) (n i : ℕ) → suc n ≤ length W → i ≤ n → form_in (take n (remove W i)) ≡ remove (form_in (take (suc n) W)) i
form_removed [] n i h l = absurd (omega arith)
form_removed (w ∷ W) n zero h l = refl
form_removed (w ∷ W) zero (suc i) h l = absurd (omega arith)
form_removed (w ∷ W) (suc n) (suc i) h l = ap (λ (x : Form). entry_of w ∷ x) (form_removed W n i (omega arith) (omega arith))

form_set : (W : List Term) (n i : ℕ) (u : Term) → i < n → form_in (take n (set W i u)) ≡ set (form_in (take n W)) i (entry_of u)
form_set W zero i u l = absurd (omega arith)
form_set [] (suc n) i u l = refl
form_set (w ∷ W) (suc n) zero u l = refl
form_set (w ∷ W) (suc n) (suc i) u l = ap (λ (x : Form). entry_of w ∷ x) (form_set W n i u (omega arith))

-- ---- what the three ways of adding a term leave

front : (X Y : List Term) (m : ℕ) → m ≤ length X → take m (take m X ++ Y) ≡ take m X
front X Y m h = take_at (take m X) Y m (length-take-le m X h)

pub opened_form : (W : List Term) (n i : ℕ) (t z : Term) → n < length W → Placed (number_of t.set) n W i
    → (i < n → number_of (get_or W i z).set ≡ number_of t.set → ⊥) → eqb (nat_abs t.coefficient) 0 ≡ false
    → form_in (take (n + 1) (opened W n i t)) ≡ insert (number_of t.set) t.coefficient (form_in (take n W))
opened_form W n i t z h p e f =
    ap form_in (front (inserted W i t) (drop (n + 1) W) (n + 1) (omega (arith, length-insert W i t (omega (arith, p.within)))))
    ∙ ap (λ (m : ℕ). form_in (take m (inserted W i t))) (add-one n)
    ∙ form_inserted W n i t (omega arith) p.within
    ∙ sym (insert_gap (number_of t.set) t.coefficient (form_in (take n W)) i (gap_of (number_of t.set) z W n i (omega arith) p e)
    ∙ cond-false (eqb (nat_abs t.coefficient) 0) (form_in (take n W)) (inserted (form_in (take n W)) i (entry_of t)) f)

pub kept_form : (W : List Term) (n i : ℕ) (t z : Term) → n < length W → Placed (number_of t.set) n W i
    → (i < n → number_of (get_or W i z).set ≡ number_of t.set → ⊥) → eqb (nat_abs t.coefficient) 0 ≡ true
    → form_in (take n W) ≡ insert (number_of t.set) t.coefficient (form_in (take n W))
kept_form W n i t z h p e f =
    sym (insert_gap (number_of t.set) t.coefficient (form_in (take n W)) i (gap_of (number_of t.set) z W n i (omega arith) p e)
    ∙ cond-true (eqb (nat_abs t.coefficient) 0) (form_in (take n W)) (inserted (form_in (take n W)) i (entry_of t)) f)

pub closed_form : (W : List Term) (n i : ℕ) (t z : Term) → n < length W → Placed (number_of t.set) n W i → i < n
    → number_of (get_or W i z).set ≡ number_of t.set → eqb (nat_abs (t.coefficient +ℤ (get_or W i z).coefficient)) 0 ≡ true
    → form_in (take (n - 1) (closed W n i)) ≡ insert (number_of t.set) t.coefficient (form_in (take n W))
closed_form W n i t z h p l e f =
    ap form_in (front (remove W i) (drop (n - 1) W) (n - 1) (omega (arith, length-remove W i (omega arith))))
    ∙ form_removed W (n - 1) i (omega arith) (omega arith)
    ∙ ap (λ (m : ℕ). remove (form_in (take m W)) i) again
    ∙ sym (insert_hit (number_of t.set) t.coefficient (get_or W i z).coefficient (form_in (take n W)) i (hit_of (number_of t.set) z W n i (omega arith) p l e)
    ∙ cond-true (eqb (nat_abs (t.coefficient +ℤ (get_or W i z).coefficient)) 0) (remove (form_in (take n W)) i) (set (form_in (take n W)) i (number_of t.set, t.coefficient +ℤ (get_or W i z).coefficient)) f)
  where
    again : suc (n - 1) ≡ n
    again = omega arith

pub summed_form : (W : List Term) (n i : ℕ) (t z u : Term) → n < length W → Placed (number_of t.set) n W i → i < n
    → number_of (get_or W i z).set ≡ number_of t.set → eqb (nat_abs (t.coefficient +ℤ (get_or W i z).coefficient)) 0 ≡ false
    → entry_of u ≡ (number_of t.set, t.coefficient +ℤ (get_or W i z).coefficient)
    → form_in (take n (set W i u)) ≡ insert (number_of t.set) t.coefficient (form_in (take n W))
summed_form W n i t z u h p l e f g =
    form_set W n i u l
    ∙ ap (set (form_in (take n W)) i) g
    ∙ sym (insert_hit (number_of t.set) t.coefficient (get_or W i z).coefficient (form_in (take n W)) i (hit_of (number_of t.set) z W n i (omega arith) p l e)
    ∙ cond-false (eqb (nat_abs (t.coefficient +ℤ (get_or W i z).coefficient)) 0) (remove (form_in (take n W)) i) (set (form_in (take n W)) i (number_of t.set, t.coefficient +ℤ (get_or W i z).coefficient)) f)
