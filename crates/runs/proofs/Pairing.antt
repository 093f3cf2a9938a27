-- Two lines driven together: each ends and reports as by its own calls alone. Assumes nothing.
use Rattle.std.proofs.Common.{◌≡◌, ℕ, suc, ◌+◌, ◌<◌, ◌≤◌, Bool, true, false, cond, List, [], ◌∷◌, ◌++◌, length, get_or, take, drop, set, sym, refl, ap, ◌∙◌, subst, ap₂, arith}
use Rattle.std.proofs.lemmas.List.{length-take-le, take_at, take_more}
use Rattle.sheet.specs.declared.sheet.Sheet.{Sheet}
use Rattle.belts.specs.Belts.{Model}
use Rattle.banks.specs.Banks.{numbered}
use Rattle.line.specs.Lines.{State, new_line}
use Rattle.runs.specs.declared.calls.Order.{Order}
use Rattle.runs.specs.declared.calls.Order.TheVariants.{First, Second}
use Rattle.runs.specs.declared.calls.Report.{Report}
use Rattle.runs.specs.Runs.{performed, afterwards, reports}
use Rattle.runs.specs.Laws.{Kept}
use Rattle.runs.specs.Pairs.{call_of, is_for, calls_for, reports_for, obeyed, report_of, woven, Alone}
use Rattle.runs.proofs.Law.{new_kept}
use Rattle.runs.proofs.Driving.{logged}

module _ (sheets : List Sheet) where
  -- the first of the orders, for one of the lines
  after_cons : (which : Bool) (s : State) (o : Order) (os : List Order) → afterwards sheets s (calls_for which (o ∷ os)) ≡ afterwards sheets (obeyed which sheets s o) (calls_for which os)
  after_cons which s o os = go (is_for which o)
    where
      go : (b : Bool) → afterwards sheets s (cond b ((call_of o) ∷ calls_for which os) (calls_for which os)) ≡ afterwards sheets (cond b (performed sheets s (call_of o)).after s) (calls_for which os)
      go true = refl
      go false = refl

  -- one order more
  after_push : (which : Bool) (s : State) (os : List Order) (o : Order) → afterwards sheets s (calls_for which (os ++ o ∷ [])) ≡ obeyed which sheets (afterwards sheets s (calls_for which os)) o
  after_push which s [] o = after_cons which s o []
  after_push which s (p ∷ os) o = after_cons which s p (os ++ o ∷ []) ∙ after_push which (obeyed which sheets s p) os o ∙ ap (λ z. obeyed which sheets z o) (sym (after_cons which s p os))

  woven_push : (one two : State) (os : List Order) (o : Order) → woven sheets one two (os ++ o ∷ []) ≡ woven sheets one two os ++ report_of sheets (afterwards sheets one (calls_for false os)) (afterwards sheets two (calls_for true os)) o ∷ []
  woven_push one two [] o = refl
  woven_push one two (p ∷ os) o =
      ap (λ log. report_of sheets one two p ∷ log) (woven_push (obeyed false sheets one p) (obeyed true sheets two p) os o
      ∙ ap₂ (λ (s t : State). woven sheets (obeyed false sheets one p) (obeyed true sheets two p) os ++ report_of sheets s t o ∷ []) (sym (after_cons false one p os)) (sym (after_cons true two p os)))

  length_woven : (one two : State) (os : List Order) → length (woven sheets one two os) ≡ length os
  length_woven one two [] = refl
  length_woven one two (o ∷ os) = ap suc (length_woven (obeyed false sheets one o) (obeyed true sheets two o) os)

  -- each line's reports are those of its own calls
  apart : (which : Bool) (one two : State) (os : List Order) → reports_for which os (woven sheets one two os) ≡ reports sheets (cond which two one) (calls_for which os)
  apart which one two [] = refl
  apart which one two (First c ∷ os) = go which (apart which (performed sheets one c).after two os)
    where
      go : (b : Bool) → reports_for b os (woven sheets (performed sheets one c).after two os) ≡ reports sheets (cond b two (performed sheets one c).after) (calls_for b os)
          → reports_for b (First c ∷ os) (woven sheets one two (First c ∷ os)) ≡ reports sheets (cond b two one) (calls_for b (First c ∷ os))
      go true e = e
      go false e = ap (λ log. (performed sheets one c).report ∷ log) e
  apart which one two (Second c ∷ os) = go which (apart which one (performed sheets two c).after os)
    where
      go : (b : Bool) → reports_for b os (woven sheets one (performed sheets two c).after os) ≡ reports sheets (cond b (performed sheets two c).after one) (calls_for b os)
          → reports_for b (Second c ∷ os) (woven sheets one two (Second c ∷ os)) ≡ reports sheets (cond b two one) (calls_for b (Second c ∷ os))
      go true e = ap (λ log. (performed sheets two c).report ∷ log) e
      go false e = e

  -- a turn of the loop that carries out the orders
  pub line_on : (which : Bool) (s : State) (os : List Order) (i : ℕ) (d : Order) → i < length os → obeyed which sheets (afterwards sheets s (calls_for which (take i os))) (get_or os i d) ≡ afterwards sheets s (calls_for which (take (i + 1) os))
  line_on which s os i d h = sym (ap (λ z. afterwards sheets s (calls_for which z)) (take_more os i d h) ∙ after_push which s (take i os) (get_or os i d))

  module _ (one two : State) (os : List Order) where
    size : (n : ℕ) → n ≤ length os → length (woven sheets one two (take n os)) ≡ n
    size n h = length_woven one two (take n os) ∙ length-take-le n os h

    pub log_on : (log before : List Report) (i : ℕ) (d : Order) → i < length os → i < length before → log ≡ woven sheets one two (take i os) ++ drop i before
        → set log i (report_of sheets (afterwards sheets one (calls_for false (take i os))) (afterwards sheets two (calls_for true (take i os))) (get_or os i d)) ≡ woven sheets one two (take (i + 1) os) ++ drop (i + 1) before
    log_on log before i d h l is =
        logged (woven sheets one two (take i os)) before log i (report_of sheets (afterwards sheets one (calls_for false (take i os))) (afterwards sheets two (calls_for true (take i os))) (get_or os i d)) l (size i (omega arith)) is
        ∙ ap (λ front. front ++ drop (i + 1) before) (sym (ap (woven sheets one two) (take_more os i d h) ∙ woven_push one two (take i os) (get_or os i d)))

  -- a line that was newly made, alone
  alone : (which : Bool) (bank : List Model) → ((b : ℕ) → (numbered bank b).places ≤ 65535) → (os : List Order) (log : List Report) (end : State) → end ≡ afterwards sheets (new_line bank) (calls_for which os)
      → reports_for which os log ≡ reports sheets (new_line bank) (calls_for which os) → Alone sheets (new_line bank) which os log end
  alone which bank small os log end so is = record {
    ends = so;
    reported = is;
    law = subst (λ (z : State). Kept z (reports_for which os log)) (sym so) (subst (Kept (afterwards sheets (new_line bank) (calls_for which os))) (sym is) (new_kept sheets bank small (calls_for which os)));
  }

  -- two lines, newly made
  module _ (s t : State) (first second : List Model) (new-first : s ≡ new_line first) (new-second : t ≡ new_line second)
      (os : List Order) (before log : List Report) (n : ℕ) (h : n ≤ length os) (is : log ≡ woven sheets s t (take n os) ++ drop n before) where
    pub log_is : log ≡ woven sheets (new_line first) (new_line second) (take n os) ++ drop n before
    log_is = is ∙ ap₂ (λ (x y : State). woven sheets x y (take n os) ++ drop n before) new-first new-second

    front : take n log ≡ woven sheets (new_line first) (new_line second) (take n os)
    front = ap (take n) log_is ∙ take_at (woven sheets (new_line first) (new_line second) (take n os)) (drop n before) n (size (new_line first) (new_line second) os n h)

    pub first_alone : ((b : ℕ) → (numbered first b).places ≤ 65535) → (end : State) → end ≡ afterwards sheets s (calls_for false (take n os)) → Alone sheets (new_line first) false (take n os) (take n log) end
    first_alone small end so =
        alone false first small (take n os) (take n log) end (so ∙ ap (λ z. afterwards sheets z (calls_for false (take n os))) new-first)
        (ap (reports_for false (take n os)) front ∙ apart false (new_line first) (new_line second) (take n os))

    pub second_alone : ((b : ℕ) → (numbered second b).places ≤ 65535) → (end : State) → end ≡ afterwards sheets t (calls_for true (take n os)) → Alone sheets (new_line second) true (take n os) (take n log) end
    second_alone small end so =
        alone true second small (take n os) (take n log) end (so ∙ ap (λ z. afterwards sheets z (calls_for true (take n os))) new-second)
        (ap (reports_for true (take n os)) front ∙ apart true (new_line first) (new_line second) (take n os))
