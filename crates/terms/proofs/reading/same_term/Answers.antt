use Rattle.std.proofs.Common.{rules, ◌≡◌, ℕ, ◌<◌, true, ◌&&◌, eqb, List, length, get_or, ℤ, ◌-ℤ◌, int_eq, nat_abs, Decides, sym, refl, ap, ◌∙◌, ap₂}
use lib.IntN.{+ℤ_invr}
use Rattle.std.proofs.lemmas.Bool.{eqb-true, eq-eqb}
use Rattle.std.proofs.lemmas.Bool.Decides.{Decides-eqb, Decides-int_eq, same_from_decides}
use Rattle.std.proofs.lemmas.Slice.Eq.{slice_eq-Decides}
use Rattle.terms.specs.Sets.{number_of, bytes_of}
use Rattle.terms.proofs.Bytes.{bytes_number}
use Rattle.terms.proofs.Canon.{no_difference}
use Rattle.terms.proofs.reading.same_term.Goals as goal

-- sets of sixteen bytes are equal where their numbers are
sets : (s t : List ℕ) → length s ≡ 16 → length t ≡ 16 → ((k : ℕ) → k < length s → get_or s k 0 < 256) → ((k : ℕ) → k < length t → get_or t k 0 < 256)
    → Decides (eqb (number_of s) (number_of t)) (s ≡ t)
sets s t l m b d = (by, λ e. eq-eqb _ _ (ap number_of e))
  where
    by : eqb (number_of s) (number_of t) ≡ true → s ≡ t
    by e = sym (bytes_number s b) ∙ ap₂ bytes_of (l ∙ sym m) (eqb-true _ _ e) ∙ bytes_number t d

coefficients : (a b : ℤ) → int_eq a b ≡ eqb (nat_abs (a -ℤ b)) 0
coefficients a b = same_from_decides _ _ (Decides-int_eq a b) (no_difference a b, λ e. eq-eqb (nat_abs (a -ℤ b)) 0 (ap (λ z. nat_abs (a -ℤ z)) (sym e) ∙ ap nat_abs (+ℤ_invr a)))

pub returns : goal.returns
returns c =
    let s = c.args.one.set in
    let t = c.args.other.set in
    c.eq.ensures ∙ ap₂ (λ a b. a && b) (same_from_decides _ _ (slice_eq-Decides Decides-eqb s t _ refl) (sets s t (search rules) (search rules) (search rules) (search rules))) (coefficients c.args.one.coefficient c.args.other.coefficient)
