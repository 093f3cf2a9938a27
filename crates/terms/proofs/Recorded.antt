-- Records beside the terms that they hold.
use Rattle.std.proofs.Common.{◌≡◌, ℕ, suc, ◌+◌, ◌-◌, ◌*◌, ◌^◌, ◌<◌, ◌≤◌, List, [], ◌∷◌, ◌++◌, map, length, get_or, take, drop, replicate, ℤ, pos, nat_abs, sym, refl, ap, ◌∙◌, ap₂, mul-add, arith}
use Rattle.std.proofs.lemmas.List.{append_assoc, at_drop_more, drop_at, drop-drop, length-append, length-map, length-replicate, length-take-le, map-append, take_more}
use Rattle.terms.specs.declared.term.Term.{Term}
use Rattle.terms.specs.Sets.{number_of, bytes_of}
use Rattle.terms.specs.Forms.{Form, norm}
use Rattle.terms.specs.Records.{entry_of, form_in, term_of, blank_term, Held}
use Rattle.terms.specs.Editing.{InFront}
use Rattle.terms.proofs.Bytes.{bytes_number}

-- what a read past the end would give
abbrev pub unread : Term
unread = record { set = []; coefficient = pos 0 }

pub norm_step : (ts : List Term) (i : ℕ) → i < length ts
    → norm (form_in (drop i ts)) ≡ nat_abs (get_or ts i unread).coefficient + norm (form_in (drop (i + 1) ts))
norm_step ts i h = at_drop_more (λ (us : List Term). norm (form_in us)) ts i unread h

-- what one term takes of the room that the rest leaves
pub next_share : (k : ℤ) (ts : List Term) (j m : ℕ) → j < length ts → m + nat_abs k * norm (form_in (drop j ts)) < 2 ^ 63
    → m + nat_abs k * nat_abs (get_or ts j unread).coefficient + nat_abs k * norm (form_in (drop (j + 1) ts)) < 2 ^ 63
next_share k ts j m l h =
    omega (
      arith,
      ap (λ (x : ℕ). nat_abs k * x) (norm_step ts j l)
          ∙ mul-add (nat_abs k) (nat_abs (get_or ts j unread).coefficient) (norm (form_in (drop (j + 1) ts))),
    )

pub length_form_in : (ts : List Term) → length (form_in ts) ≡ length ts
length_form_in ts = length-map ts entry_of

-- as many records as the form has that they hold
pub counted : (n : ℕ) (ts : List Term) (p : Form) → n ≤ length ts → form_in (take n ts) ≡ p → n ≡ length p
counted n ts p h e = sym (length-take-le n ts h) ∙ sym (length_form_in (take n ts)) ∙ ap length e

pub holding : (reach n : ℕ) (p : Form) (W W' : List Term) → n ≤ length W' → n ≤ reach → form_in (take n W') ≡ p → drop reach W' ≡ drop reach W → InFront reach p W W' n
holding reach n p W W' l b e f = record { count = counted n W' p l e; within = l; bound = b; form = e; rest = f }

-- what stays from a place on stays from any later place on
pub drop_later : (m n : ℕ) (xs ys : List Term) → m ≤ n → drop m xs ≡ drop m ys → drop n xs ≡ drop n ys
drop_later m n xs ys h e =
    let k : m + later ≡ n = omega arith in
    sym (ap (λ (x : ℕ). drop x xs) k) ∙ sym (drop-drop later m xs) ∙ ap (drop later) e ∙ drop-drop later m ys ∙ ap (λ (x : ℕ). drop x ys) k
  where
    later : ℕ
    later = n - m

-- what one call held, as a later call or a contract has it
pub onward : (reach reach' n : ℕ) (p p' : Form) (W W' W₀ : List Term) → InFront reach p W W' n → p ≡ p' → reach ≤ reach' → drop reach' W ≡ drop reach' W₀
    → InFront reach' p' W₀ W' n
onward reach reach' n p p' W W' W₀ h e l f = record {
  count = h.count ∙ ap length e;
  within = h.within;
  bound = omega (arith, h.bound);
  form = h.form ∙ e;
  rest = drop_later reach reach' W' W l h.rest ∙ f;
}

-- a record is that of the term that it holds
pub term_back : (t : Term) → length t.set ≡ 16 → ((k : ℕ) → k < length t.set → get_or t.set k 0 < 256) → term_of (entry_of t) ≡ t
term_back t e h =
    let s : bytes_of 16 (number_of t.set) ≡ t.set = ap (λ (n : ℕ). bytes_of n (number_of t.set)) (sym e) ∙ bytes_number t.set h in
    λ i. record { set = s i; coefficient = t.coefficient }

-- one more record
pub terms_more : (ts : List Term) (i : ℕ) → i < length ts → map term_of (form_in (take i ts)) ≡ take i ts → term_of (entry_of (get_or ts i unread)) ≡ get_or ts i unread
    → map term_of (form_in (take (i + 1) ts)) ≡ take (i + 1) ts
terms_more ts i h e f =
    ap (λ (us : List Term). map term_of (form_in us)) (take_more ts i unread h)
    ∙ ap (map term_of) (map-append entry_of (take i ts) (get_or ts i unread ∷ []))
    ∙ map-append term_of (form_in (take i ts)) (entry_of (get_or ts i unread) ∷ [])
    ∙ ap₂ (λ (us : List Term) (u : Term). us ++ u ∷ []) e f
    ∙ sym (take_more ts i unread h)

-- the first records are those of the terms that they hold, where each is of sixteen bytes
pub terms_back : (ts : List Term) → ((i : ℕ) → i < length ts → term_of (entry_of (get_or ts i unread)) ≡ get_or ts i unread) → map term_of (form_in ts) ≡ ts
terms_back [] h = refl
terms_back (t ∷ ts) h = ap₂ (λ (u : Term) (us : List Term). u ∷ us) (h 0 (omega arith)) (terms_back ts (λ i l. h (suc i) (omega arith)))

-- a form that is held stands in front
pub in_front : (reach n : ℕ) (p : Form) (W W' : List Term) → Held reach p W W' n → InFront reach p W W' n
in_front reach n p W W' h = record {
  count = h.count;
  within = omega (arith, ap length h.records ∙ length-append (map term_of p) _, length-map p term_of, h.count);
  bound = h.bound;
  form = h.form;
  rest = ap (drop reach) (h.records ∙ sym (append_assoc (map term_of p) (replicate (reach - n) blank_term) (drop reach W))) ∙ drop_at (map term_of p ++ replicate (reach - n) blank_term) (drop reach W) reach size;
}
  where
    size : length (map term_of p ++ replicate (reach - n) blank_term) ≡ reach
    size = length-append (map term_of p) (replicate (reach - n) blank_term) ∙ omega (arith, length-map p term_of, length-replicate (reach - n) blank_term, h.count, h.bound)
