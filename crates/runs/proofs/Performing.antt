-- What one call comes to, from what its parts give. Assumes nothing.
use Rattle.std.proofs.Common.{◌≡◌, ℕ, ◌-◌, ◌*◌, min, not, ◌||◌, eqb, ltb, List, [], ◌++◌, length, take, drop, replicate, Ok, Err, Result, sym, refl, ap, ◌∙◌, ap₂, arith}
use Rattle.std.specs.List.{list_any}
use Rattle.std.proofs.lemmas.List.{length-append, length-drop, length-replicate, take-replicate, drop-replicate}
use Rattle.std.proofs.lemmas.Bool.{ltb-false}
use Rattle.sheet.specs.declared.class.Class.TheVariants as Of
use Rattle.sheet.specs.declared.fault.Fault.{Fault}
use Rattle.sheet.specs.declared.fault.Refusal.TheVariants.{NoSheet, WrongSensors, ShortEvents}
use Rattle.sheet.specs.Nodes.{count_of}
use Rattle.sheet.proofs.Refusals.{passed_if}
use Rattle.line.specs.Parts.{belt_count}
use Rattle.line.specs.Lines.{State, Step, enters_now, leaves_now, event_bytes, tick_test, tick_by, tick}
use Rattle.line.proofs.Bytes.{length_bytes}
use Rattle.runs.specs.declared.calls.Answer.{Answer}
use Rattle.runs.specs.declared.calls.Report.{Report}
use Rattle.runs.specs.Runs.{blank, filled, answer_of, turn}

-- a call without event memory
pub turned : {R : Type 0} (reply : R → Answer) (a : Result R Fault) (x : Answer) (r : Report) (after : State) (s : Step R)
    → r ≡ record { answer = x; bytes = filled [] } → x ≡ answer_of reply a → record { answer = a; memory = []; after = after } ≡ s
    → record { report = r; after = after } ≡ turn reply s
turned reply a x r after s er ex es =
    ap (λ (z : Report). record { report = z; after = after }) (er ∙ ap (λ (y : Answer). record { answer = y; bytes = filled [] }) ex) ∙ ap (turn reply) es

-- a tick leaves its memory as long as it was
tick_length : (s : State) (sensors memory : List ℕ) → length (tick s sensors memory).memory ≡ length memory
tick_length s sensors memory = go (tick_test s sensors (length memory)) refl
  where
    go : (test : Result (Unit {0}) Fault) → tick_test s sensors (length memory) ≡ test → length (tick_by test s sensors memory).memory ≡ length memory
    go (Err f) e = refl
    go (Ok u) e =
        let n = belt_count s.sheet in
        let one = passed_if (not s.mounted) NoSheet 0 _ e in
        let two = passed_if (not (eqb (length sensors) (count_of Of.Sensor s.sheet)) || list_any (ltb 1) sensors) WrongSensors 0 _ one.1 in
        let three = passed_if (ltb (length memory) (2 * n)) ShortEvents 0 _ two.1 in
        let enough = ltb-false (length memory) (2 * n) three.0 in
        let bytes = event_bytes (enters_now s sensors) (leaves_now s sensors) n in
        omega (arith, length-append bytes (drop (2 * n) memory), length_bytes (enters_now s sensors) (leaves_now s sensors) n, length-drop (2 * n) memory)

-- a tick in the first of 64 zero bytes, as the code lends them
pub ticked_in : (reply : ℕ × ℕ → Answer) (s : State) (sensors : List ℕ) (memory n : ℕ) (a : Result (ℕ × ℕ) Fault) (last : List ℕ) (x : Answer) (after : State) → n ≡ min memory 64 → x ≡ answer_of reply a
    → record { answer = a; memory = last; after = after } ≡ tick s sensors (take n (replicate 64 0))
    → record { report = record { answer = x; bytes = last ++ drop n (replicate 64 0) }; after = after } ≡ turn reply (tick s sensors (blank memory))
unfolding filled
ticked_in reply s sensors memory n a last x after en ex es =
    let t : Step (ℕ × ℕ) = tick s sensors (blank memory) in
    let front : take n (replicate 64 0) ≡ blank memory = take-replicate n 64 0 (omega arith) ∙ ap (λ k. replicate k 0) en in
    let size : length t.memory ≡ n = tick_length s sensors (blank memory) ∙ length-replicate (min memory 64) 0 ∙ sym en in
    let rest : drop n (replicate 64 0) ≡ replicate (64 - length t.memory) 0 = drop-replicate n 64 0 ∙ ap (λ k. replicate (64 - k) 0) (sym size) in
    ap₂ (λ (y : Answer) (zs : List ℕ). record { report = record { answer = y; bytes = last ++ zs }; after = after }) ex rest
    ∙ ap (λ (z : Step (ℕ × ℕ)). record { report = record { answer = answer_of reply z.answer; bytes = z.memory ++ replicate (64 - length t.memory) 0 }; after = z.after }) (es ∙ ap (tick s sensors) front)
