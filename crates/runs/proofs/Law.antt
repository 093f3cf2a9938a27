-- The law over runs: every call keeps what is known of a line and of the reports so far. Assumes nothing.
use Rattle.std.proofs.Common.{◌≡◌, ℕ, zero, suc, ◌+◌, ◌*◌, ◌<◌, ◌≤◌, Bool, true, cond, ◌&&◌, eqb, ltb, List, [], ◌∷◌, ◌++◌, map, length, get_or, drop, ℤ, pos, ◌-ℤ◌, is_some, Some, None, Ok, Err, Result, refl, ap, ◌∙◌, ap₂, ⊎_elim, arith}
use Rattle.std.proofs.lemmas.List.{length-append, length-map, get_or_append_left, get_or-set_other}
use Rattle.std.proofs.lemmas.Int.{ints}
use Rattle.std.proofs.lemmas.List.Sums.{sum_by_push}
use Rattle.std.proofs.lemmas.Bool.{cases_lt, cond-true, eqb-true, and_parts, and_from, lt-ltb}
use Rattle.sheet.specs.declared.node.Node.{Node}
use Rattle.sheet.specs.declared.fault.Fault.{Fault}
use Rattle.sheet.specs.declared.fault.Refusal.TheVariants.{BeltsDiffer, NarrowBelt, LadenBelt}
use Rattle.sheet.specs.declared.sheet.Sheet.{Sheet}
use Rattle.sheet.proofs.Refusals.{passed_at, passed_unless}
use Rattle.sheet.specs.Rules.{Complete, lowest}
use Rattle.sheet.specs.Wires.{bit}
use Rattle.belts.specs.Belts.{Model, first, head_of, counted, roomy, clearing}
use Rattle.banks.specs.Banks.{absent, numbered}
use Rattle.kinds.specs.Kinds.{Kind}
use Rattle.flows.specs.Completeness.{over_rows, gain}
use Rattle.flows.proofs.Complete.{CountsZero}
use Rattle.flows.proofs.Derived.{wholes_count, parities_count, derived_over_counts}
use Rattle.line.specs.Parts.{belt_count, bits_of}
use Rattle.line.specs.Lines.{State, Step, step, new_line, narrow, laden, mount_test, mount, clear_test, clear, row_now, wires_now, enters_now, leaves_now, word_of, moved, each, event_bytes, ticked, tick_test, tick_step, tick_by, tick}
use Rattle.runs.specs.declared.calls.Call.{Call}
use Rattle.runs.specs.declared.calls.Call.TheVariants.{Mount, Tick, Clear, Count}
use Rattle.runs.specs.declared.calls.Answer.{Answer}
use Rattle.runs.specs.declared.calls.Answer.TheVariants.{Done, Ticked}
use Rattle.runs.specs.declared.calls.Report.{Report}
use Rattle.runs.specs.Runs.{sheet_at, blank, filled, Turn, turn, performed, afterwards, reports}
use Rattle.runs.specs.Told.{heard, since_from, since, enterings, leavings}
use Rattle.runs.specs.Laws.{held, CountTells, BalancesHold, Kept}
use Rattle.line.proofs.Bytes.{length_bytes, entered_at, left_at}
use Rattle.line.proofs.Moving.{length_each, each_at}
use Rattle.runs.proofs.Rows.{enters_as_row, leaves_as_row}
use Rattle.runs.proofs.Lengths.{moved_places, moved_sum, entered_within}

-- what is known of a line, after the event bytes told since its last accepted mounting or clearing
pub record Known (s : State) (told : List (List ℕ)) : Type 0 where
  small : (b : ℕ) → (numbered s.bank b).places ≤ 65535
  whole : Complete s.sheet
  enough : belt_count s.sheet ≤ length s.bank
  mounted : 0 < belt_count s.sheet → s.mounted ≡ true
  within : (b : ℕ) → b < belt_count s.sheet → held s b ≤ (numbered s.bank b).places
  counts : (b : ℕ) → b < belt_count s.sheet → held s b + leavings b told ≡ enterings b told
  rows : List (List Bool)
  gains : (b : ℕ) → b < belt_count s.sheet → pos (held s b) ≡ over_rows (λ row. gain s.sheet row b) rows

-- ---- from what is known to the law

module _ (s : State) (told : List (List ℕ)) (K : Known s told) where
  count_tells : (b : ℕ) → b < belt_count s.sheet → CountTells s told b
  count_tells b h =
      let f = K.within b h in
      let p = K.small b in
      let short : counted (numbered s.bank b) ≡ held s b = omega arith in
      record {
        counted = cond-true (s.mounted && ltb b (belt_count s.sheet)) (Some (counted (numbered s.bank b))) None
            (and_from s.mounted (ltb b (belt_count s.sheet)) (K.mounted (omega arith)) (lt-ltb b (belt_count s.sheet) h)) ∙ ap Some short;
        reported = K.counts b h;
      }

  balances_hold : {L : Kind} {Z : ℤ → Type 0} → CountsZero L Z → BalancesHold L Z s
  balances_hold C balances e = derived_over_counts C s.sheet balances e K.rows (λ b. pos (held s b)) K.gains

pub kept_from : (s : State) (log : List Report) → Known s (since log) → Kept s log
kept_from s log K = record { counts = count_tells s (since log) K; balances = balances_hold s (since log) K wholes_count; parities = balances_hold s (since log) K parities_count }

-- ---- a line whose belts are all empty

fresh : (s : State) → ((b : ℕ) → (numbered s.bank b).places ≤ 65535) → Complete s.sheet → belt_count s.sheet ≤ length s.bank → (0 < belt_count s.sheet → s.mounted ≡ true)
    → ((b : ℕ) → b < belt_count s.sheet → (numbered s.bank b).words ≡ []) → Known s []
fresh s small whole enough mounted none = record {
  small = small;
  whole = whole;
  enough = enough;
  mounted = mounted;
  within = λ b h. omega (arith, ap length (none b h));
  counts = λ b h. omega (arith, ap length (none b h));
  rows = [];
  gains = λ b h. ap (λ ws. pos (length ws)) (none b h);
}

no_lines : Complete []
no_lines i h = absurd (omega arith)

pub new_known : (bank : List Model) → ((b : ℕ) → (numbered bank b).places ≤ 65535) → Known (new_line bank) []
new_known bank small = fresh (new_line bank) small no_lines (omega arith) (λ h. absurd (omega arith)) (λ b h. absurd (omega arith))

-- ---- mounting

none_laden : (k : ℕ) (bank : List Model) → lowest (λ b m. is_some (head_of m)) k bank ≡ None → (b : ℕ) → (numbered bank b).words ≡ []
none_laden k [] e b = refl
none_laden k (m ∷ ms) e b = go m.words refl (none_laden (suc k) ms) b e
  where
    go : (ws : List ℕ) → m.words ≡ ws → (lowest (λ b m. is_some (head_of m)) (suc k) ms ≡ None → (b : ℕ) → (numbered ms b).words ≡ [])
        → (b : ℕ) → cond (is_some (first ws)) (Some k) (lowest (λ b m. is_some (head_of m)) (suc k) ms) ≡ None → (numbered (m ∷ ms) b).words ≡ []
    go [] is later zero e = is
    go [] is later (suc b) e = later e b
    go (w ∷ ws) is later b e = let z : ◌≡◌ {A = ℕ} 0 1 = cc in absurd (omega arith)

-- what is known after one call more
abbrev pub KnownBy : List (List ℕ) → Turn → Type 0
KnownBy told t = Known t.after (heard told t.report.answer t.report.bytes)

-- belts past the first n stay
each_past : (f : ℕ → Model → Model) (n : ℕ) (bank : List Model) (b : ℕ) → n ≤ b → numbered (each f n bank) b ≡ numbered bank b
each_past f zero bank b h = refl
each_past f (suc n) bank b h = get_or-set_other (each f n bank) n b _ absent (λ e. omega arith) ∙ each_past f n bank b (omega arith)

clear_at : (bank : List Model) (b : ℕ) → numbered (map clearing bank) b ≡ clearing (numbered bank b)
clear_at [] b = refl
clear_at (m ∷ ms) zero = refl
clear_at (m ∷ ms) (suc b) = clear_at ms b

module _ (s : State) (told : List (List ℕ)) (K : Known s told) where
  -- a refused call changes nothing
  by_test : {R : Type 0} (reply : R → Answer) (memory : List ℕ) (accepted : Step R) (test : Result (Unit {0}) Fault)
      → (test ≡ Ok tt → KnownBy told (turn reply accepted)) → KnownBy told (turn reply (step test s memory accepted))
  by_test reply memory accepted (Err f) next = K
  by_test reply memory accepted (Ok u) next = next refl

  mounts : (ns : List Node) → Complete ns → KnownBy told (turn (λ u. Done) (mount s ns))
  mounts ns whole = by_test (λ u. Done) [] _ (mount_test s.bank ns) (λ e.
      let one = passed_unless (eqb (length s.bank) (belt_count ns)) BeltsDiffer 0 _ e in
      let two = passed_at (narrow ns s.bank) NarrowBelt _ one.1 in
      let three = passed_at (laden s.bank) LadenBelt _ two.1 in
      let same = eqb-true (length s.bank) (belt_count ns) one.0 in
      fresh _ K.small whole (omega arith) (λ h. refl) (λ b h. none_laden 0 s.bank three.0 b))

  clears : KnownBy told (turn (λ u. Done) (clear s))
  clears = by_test (λ u. Done) [] _ (clear_test s) (λ e.
      fresh _ (λ b. omega (arith, ap (λ m. m.places) (clear_at s.bank b), K.small b)) K.whole (omega (arith, K.enough, length-map s.bank clearing)) K.mounted
      (λ b h. ap (λ m. m.words) (clear_at s.bank b)))

  -- ---- ticking

  module _ (sensors : List ℕ) where
    abbrev enter : ℕ → Bool
    enter = enters_now s sensors

    abbrev leave : ℕ → Bool
    leave = leaves_now s sensors

    abbrev word : ℕ → ℕ
    word b = word_of (wires_now s sensors) (bits_of b s.sheet)

    abbrev after : State
    after = ticked s sensors

    room : (b : ℕ) → enter b ≡ true → roomy (numbered s.bank b) ≡ true
    room b e = (and_parts _ (roomy (numbered s.bank b)) e).1

    item : (b : ℕ) → leave b ≡ true → is_some (head_of (numbered s.bank b)) ≡ true
    item b e = (and_parts _ (is_some (head_of (numbered s.bank b))) e).1

    module _ (b : ℕ) (h : b < belt_count s.sheet) where
      after_at : numbered after.bank b ≡ moved (enter b) (leave b) (word b) (numbered s.bank b)
      after_at = each_at (λ c. moved (enter c) (leave c) (word c)) (belt_count s.sheet) s.bank b h (omega (arith, K.enough))

      sum_at : held after b + bit (leave b) ≡ held s b + bit (enter b)
      sum_at = ap (λ m. length m.words + bit (leave b)) after_at ∙ moved_sum (word b) (numbered s.bank b) (K.small b) (enter b) (leave b) (room b) (item b)

      places_at : (numbered after.bank b).places ≡ (numbered s.bank b).places
      places_at = ap (λ m. m.places) after_at ∙ moved_places (enter b) (leave b) (word b) (numbered s.bank b)

      within_at : held after b ≤ (numbered after.bank b).places
      within_at = omega (arith, sum_at, places_at, entered_within (word b) (numbered s.bank b) (K.small b) (enter b) (K.within b h) (room b))

      gain_at : gain s.sheet (row_now s sensors) b ≡ pos (bit (enter b)) -ℤ pos (bit (leave b))
      gain_at = ap₂ (λ (x y : Bool). pos (bit x) -ℤ pos (bit y)) (enters_as_row s sensors K.whole b h) (leaves_as_row s sensors K.whole b h)

      held_at : pos (held after b) ≡ over_rows (λ row. gain s.sheet row b) (row_now s sensors ∷ K.rows)
      held_at = omega (arith, ints, sum_at, gain_at, K.gains b h)

      module _ (memory : List ℕ) where
        abbrev bytes : List ℕ
        bytes = (tick_step s sensors memory).memory

        byte_at : (k x : ℕ) → k < 2 * belt_count s.sheet → get_or (event_bytes enter leave (belt_count s.sheet)) k 0 ≡ x → get_or (filled bytes) k 0 ≡ x
        unfolding filled
        byte_at k x l e =
            let front = event_bytes enter leave (belt_count s.sheet) in
            let rest = drop (2 * belt_count s.sheet) memory in
            get_or_append_left (front ++ rest) _ 0 k (omega (arith, length-append front rest, length_bytes enter leave (belt_count s.sheet)))
            ∙ get_or_append_left front rest 0 k (omega (arith, length_bytes enter leave (belt_count s.sheet))) ∙ e

        counts_at : held after b + leavings b (told ++ filled bytes ∷ []) ≡ enterings b (told ++ filled bytes ∷ [])
        counts_at =
            let entered = byte_at (2 * b) (bit (enter b)) (omega arith) (entered_at enter leave (belt_count s.sheet) b h) in
            let left = byte_at (2 * b + 1) (bit (leave b)) (omega arith) (left_at enter leave (belt_count s.sheet) b h) in
            let p = sum_by_push (λ bs. get_or bs (2 * b) 0) told (filled bytes) in
            let q = sum_by_push (λ bs. get_or bs (2 * b + 1) 0) told (filled bytes) in
            omega (arith, sum_at, K.counts b h)

    small_after : (b : ℕ) → (numbered after.bank b).places ≤ 65535
    small_after b =
        ⊎_elim
        (λ (h : b < belt_count s.sheet). omega (arith, places_at b h, K.small b))
        (λ (h : belt_count s.sheet ≤ b). omega (arith, ap (λ m. m.places) (each_past (λ c. moved (enter c) (leave c) (word c)) (belt_count s.sheet) s.bank b h), K.small b))
        (cases_lt b (belt_count s.sheet))

    ticks_by : (memory : List ℕ) (test : Result (Unit {0}) Fault) → KnownBy told (turn (λ p. Ticked p.0 p.1) (tick_by test s sensors memory))
    ticks_by memory (Err f) = K
    ticks_by memory (Ok u) = record {
      small = small_after;
      whole = K.whole;
      enough = omega (arith, K.enough, length_each (λ c. moved (enter c) (leave c) (word c)) (belt_count s.sheet) s.bank);
      mounted = K.mounted;
      within = within_at;
      counts = λ b h. counts_at b h memory;
      rows = row_now s sensors ∷ K.rows;
      gains = held_at;
    }

    ticks : (memory : List ℕ) → KnownBy told (turn (λ p. Ticked p.0 p.1) (tick s sensors memory))
    ticks memory = ticks_by memory (tick_test s sensors (length memory))

-- ---- any list of calls

sheet_whole : (sheets : List Sheet) (k : ℕ) → Complete (sheet_at sheets k)
sheet_whole [] k = no_lines
sheet_whole (x ∷ sheets) zero = x.complete
sheet_whole (x ∷ sheets) (suc k) = sheet_whole sheets k

module _ (sheets : List Sheet) where
  pub call_known : (s : State) (told : List (List ℕ)) → Known s told → (c : Call) → KnownBy told (performed sheets s c)
  call_known s told K (Mount k) = mounts s told K (sheet_at sheets k) (sheet_whole sheets k)
  call_known s told K (Tick sensors memory) = ticks s told K sensors.now (blank memory)
  call_known s told K Clear = clears s told K
  call_known s told K (Count b) = K

  pub run_known : (s : State) (told : List (List ℕ)) → Known s told → (cs : List Call) → Known (afterwards sheets s cs) (since_from told (reports sheets s cs))
  run_known s told K [] = K
  run_known s told K (c ∷ cs) =
      let t = performed sheets s c in
      run_known t.after (heard told t.report.answer t.report.bytes) (call_known s told K c) cs

  -- the law of a newly made line, after any list of calls
  pub new_kept : (bank : List Model) → ((b : ℕ) → (numbered bank b).places ≤ 65535) → (cs : List Call) → Kept (afterwards sheets (new_line bank) cs) (reports sheets (new_line bank) cs)
  new_kept bank small cs = kept_from _ _ (run_known (new_line bank) [] (new_known bank small) cs)
