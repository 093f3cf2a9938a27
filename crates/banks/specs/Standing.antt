-- Two banks side by side: where a number's belt stands. Assumes nothing.
use Rattle.std.specs.Prelude.{◌≡◌, ℕ, ◌-◌, ◌<◌, ◌≤◌, List, ◌++◌, length, take, Some, None, refl}
use Rattle.std.proofs.Common.{sym, ap, subst, ◌∙◌, ⊎_elim, arith}
use Rattle.std.proofs.Math.Seq.{take-set-lt}
use Rattle.std.proofs.lemmas.List.{length-take, get_or-take, get_or_past, get_or_append_left, get_or-append_right, set-append_left, set-append_right, set_past}
use Rattle.std.proofs.lemmas.Bool.{cases_lt}
use Rattle.belts.specs.Belts.{Model}
use Rattle.banks.specs.Banks.{absent, numbered, beside}
use Rattle.banks.specs.Sides.{Past, StandsAt}
use Rattle.banks.specs.declared.beside.Side.TheVariants.{First, Second}

pub past_end : (bs : List Model) (i : ℕ) → length bs ≤ i → Past bs i
past_end bs i le = (get_or_past bs i absent le, λ m. set_past bs i m le)

module _ (xs ys : List Model) (i : ℕ) where
  pub in_first : length xs ≤ 32 → i < length xs → StandsAt xs ys i (Some (First i))
  in_first few lt =
      let h : i < 32 = omega arith in (
        rw (get_or-take, get_or_append_left),
        λ m. sym (take-set-lt 32 (xs ++ ys) i m h) ∙ ap (take 32) (set-append_left xs ys i m lt),
      )

  pub in_second : (n : ℕ) → length xs ≡ n → n ≤ i → i < 32 → StandsAt xs ys i (Some (Second (i - n)))
  in_second n is le lt = (
    rw get_or-take (get_or-append_right xs ys n i absent is le),
    λ m. sym (take-set-lt 32 (xs ++ ys) i m lt) ∙ ap (take 32) (set-append_right xs ys n i m is le),
  )

  pub in_neither : 32 ≤ i → StandsAt xs ys i None
  in_neither le = past_end (beside xs ys) i (simp length-take (omega arith))

-- what holds of each belt of both banks, and of an absent one, holds of each belt shown
pub beside_each : (P : Model → Type 0) (xs ys : List Model) → length xs ≤ 32 → P absent → ((i : ℕ) → P (numbered xs i)) → ((i : ℕ) → P (numbered ys i)) → (i : ℕ) → P (numbered (beside xs ys) i)
beside_each P xs ys few none p q i =
    ⊎_elim
    (λ lt. subst P (sym (in_first xs ys i few lt).0) (p i))
    (λ le. ⊎_elim
    (λ lt. subst P (sym (in_second xs ys i (length xs) refl le lt).0) (q (i - length xs)))
    (λ ge. subst P (sym (in_neither xs ys i ge).0) none)
    (cases_lt i 32))
    (cases_lt i (length xs))
