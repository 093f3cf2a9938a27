-- A number's digits, one after another.
use Rattle.std.proofs.Common.{◌≡◌, ℕ, ◌+◌, ◌/◌, ◌%◌, ◌^◌, ◌<◌, ◌≤◌, List, [], ◌∷◌, ◌++◌, length, decimal, sym, ap, ◌∙◌, arith}
use Rattle.std.proofs.lemmas.List.{append_assoc, length_push}
use Rattle.std.proofs.lemmas.Fmt.{decimal_digit, decimal_step}

module _ (n : ℕ) (small : n < 2 ^ 64) where
  pub length_step : 9 < n → length (decimal n) ≡ length (decimal (n / 10)) + 1
  length_step h = ap length (decimal_step n (omega arith) small) ∙ length_push (decimal (n / 10)) (48 + n % 10)

  pub length_digit : n ≤ 9 → length (decimal n) ≡ 1
  length_digit h = ap length (decimal_digit n (omega arith))

  module _ (text now : List ℕ) where
    pub digit_after : 9 < n → now ≡ text ++ decimal (n / 10) → now ++ (48 + n % 10) ∷ [] ≡ text ++ decimal n
    digit_after h e =
        ap (λ x. x ++ (48 + n % 10) ∷ []) e ∙ append_assoc text (decimal (n / 10)) ((48 + n % 10) ∷ [])
        ∙ ap (λ x. text ++ x) (sym (decimal_step n (omega arith) small))

    pub digit_alone : n ≤ 9 → now ≡ text → now ++ (48 + n % 10) ∷ [] ≡ text ++ decimal n
    digit_alone h e =
        let d : n % 10 ≡ n = omega arith in
        ap (λ x. x ++ (48 + n % 10) ∷ []) e ∙ ap (λ k. text ++ (48 + k) ∷ []) d ∙ ap (λ x. text ++ x) (sym (decimal_digit n (omega arith)))
