use Rattle.std.proofs.Common.{◌/◌, ◌^◌, ◌<◌, length, decimal, ap, ◌∙◌, arith}
use Rattle.std.proofs.lemmas.List.{length-append}
use Rattle.printing.specs.Pages.{text_on}
use Rattle.printing.proofs.Digits.{length_step, length_digit, digit_after, digit_alone}
use Rattle.printing.proofs.page.Page.+push_number.Goals as goal
use Rattle.printing.proofs.page.Page.+push_number.Goals.{then-n-gt9, else-n-gt9}

pub push_number-requires : goal.push_number-requires
push_number-requires t c =
    let n = c.args.n in
    let small : n < 2 ^ 64 = omega arith in
    (omega arith, omega (arith, length_step n small (omega arith)))

pub push-requires : goal.push-requires
push-requires t c =
    let n = c.args.n in
    let small : n < 2 ^ 64 = omega arith in
    elim c.if-n-gt9.branch [
      | then-n-gt9 w ↦ omega (arith, length_step n small (omega arith), ap (λ p. length (text_on p)) w.self-is, ap length w.push_number.ensures, length-append (text_on c.args.self.now) (decimal (n / 10)))
      | else-n-gt9 w ↦ omega (arith, length_digit n small (omega arith), ap (λ p. length (text_on p)) w.self-is)
    ]

pub returns : goal.returns
returns t c =
    let n = c.args.n in
    let small : n < 2 ^ 64 = omega arith in
    c.push.ensures ∙ elim c.if-n-gt9.branch [
      | then-n-gt9 w ↦ digit_after n small _ _ (omega arith) (ap text_on w.self-is ∙ w.push_number.ensures)
      | else-n-gt9 w ↦ digit_alone n small _ _ (omega arith) (ap text_on w.self-is)
    ]
