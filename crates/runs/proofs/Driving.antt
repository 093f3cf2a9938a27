-- A list of calls, one more at the end. Assumes nothing.
use Rattle.std.proofs.Common.{◌≡◌, ℕ, suc, ◌+◌, ◌<◌, ◌≤◌, List, [], ◌∷◌, ◌++◌, length, get_or, take, drop, set, sym, refl, ap, ◌∙◌, subst, arith}
use Rattle.std.proofs.lemmas.List.{append_assoc, length-take-le, take_at, take_more, drop_more, set_at}
use Rattle.std.proofs.lemmas.List.Sums.{fold_push}
use Rattle.sheet.specs.declared.sheet.Sheet.{Sheet}
use Rattle.banks.specs.Banks.{numbered}
use Rattle.line.specs.Lines.{State, new_line}
use Rattle.runs.specs.declared.calls.Call.{Call}
use Rattle.runs.specs.declared.calls.Report.{Report}
use Rattle.runs.specs.Runs.{performed, afterwards, reports}
use Rattle.runs.specs.Laws.{Kept}
use Rattle.runs.proofs.Law.{new_kept}

-- a place of the log written, after those before it
pub logged : (front before log : List Report) (i : ℕ) (r : Report) → i < length before → length front ≡ i → log ≡ front ++ drop i before → set log i r ≡ (front ++ r ∷ []) ++ drop (i + 1) before
logged front before log i r h size is =
    let b = drop_more before i r h in
    let s = set_at front (get_or before i r) (drop (i + 1) before) r i size in
    let e = append_assoc front (r ∷ []) (drop (i + 1) before) in
    cc

module _ (sheets : List Sheet) where
  after_push : (s : State) (cs : List Call) (c : Call) → afterwards sheets s (cs ++ c ∷ []) ≡ (performed sheets (afterwards sheets s cs) c).after
  after_push = fold_push (λ s c. (performed sheets s c).after)

  reports_push : (s : State) (cs : List Call) (c : Call) → reports sheets s (cs ++ c ∷ []) ≡ reports sheets s cs ++ (performed sheets (afterwards sheets s cs) c).report ∷ []
  reports_push s [] c = refl
  reports_push s (d ∷ cs) c = ap (λ log. (performed sheets s d).report ∷ log) (reports_push (performed sheets s d).after cs c)

  length_reports : (s : State) (cs : List Call) → length (reports sheets s cs) ≡ length cs
  length_reports s [] = refl
  length_reports s (c ∷ cs) = ap suc (length_reports (performed sheets s c).after cs)

  module _ (s : State) (cs : List Call) where
    size : (n : ℕ) → n ≤ length cs → length (reports sheets s (take n cs)) ≡ n
    size n h = length_reports s (take n cs) ∙ length-take-le n cs h

    -- a turn of the loop that makes the calls
    pub line_on : (i : ℕ) (d : Call) → i < length cs → (performed sheets (afterwards sheets s (take i cs)) (get_or cs i d)).after ≡ afterwards sheets s (take (i + 1) cs)
    line_on i d h = sym (ap (afterwards sheets s) (take_more cs i d h) ∙ after_push s (take i cs) (get_or cs i d))

    pub log_on : (log before : List Report) (i : ℕ) (d : Call) → i < length cs → i < length before → log ≡ reports sheets s (take i cs) ++ drop i before
        → set log i (performed sheets (afterwards sheets s (take i cs)) (get_or cs i d)).report ≡ reports sheets s (take (i + 1) cs) ++ drop (i + 1) before
    log_on log before i d h l is =
        logged (reports sheets s (take i cs)) before log i (performed sheets (afterwards sheets s (take i cs)) (get_or cs i d)).report l (size i (omega arith)) is
        ∙ ap (λ front. front ++ drop (i + 1) before) (sym (ap (reports sheets s) (take_more cs i d h) ∙ reports_push s (take i cs) (get_or cs i d)))

    -- the law, of a line that was newly made
    pub law_of : (after : State) (log rest : List Report) (n : ℕ) → n ≤ length cs → log ≡ reports sheets s (take n cs) ++ rest → after ≡ afterwards sheets s (take n cs)
        → ((b : ℕ) → (numbered s.bank b).places ≤ 65535) → s ≡ new_line s.bank → Kept after (take n log)
    law_of after log rest n h is so small new =
        let kept : Kept (afterwards sheets s (take n cs)) (reports sheets s (take n cs)) = subst (λ (z : State). Kept (afterwards sheets z (take n cs)) (reports sheets z (take n cs))) (sym new) (new_kept sheets s.bank small (take n cs)) in
        let front : take n log ≡ reports sheets s (take n cs) = ap (take n) is ∙ take_at (reports sheets s (take n cs)) rest n (size n h) in
        subst (λ (z : State). Kept z (take n log)) (sym so) (subst (Kept (afterwards sheets s (take n cs))) (sym front) kept)
