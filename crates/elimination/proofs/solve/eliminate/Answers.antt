use Rattle.std.proofs.Common.{◌≡◌, ◌+◌, ◌-◌, ◌*◌, ◌≤◌, map, length, take, Some, sym, refl, ap, ◌∙◌, arith}
use Rattle.std.proofs.lemmas.List.{length-take}
use Rattle.std.proofs.lemmas.Result.{err_from_is_err_and}
use Rattle.kinds.specs.Elimination.{added, eliminated, passes}
use Rattle.elimination.specs.Memory.{told}
use Rattle.elimination.specs.States.{state_in}
use Rattle.elimination.proofs.Scan.{row_inside}
use Rattle.elimination.proofs.Written.{all_rows}
use Rattle.elimination.proofs.Turns.{left, begins, ends, starts_past, steps_past, turns, same_handled, nothing_filed, nothing_written, refused, passed}
use Rattle.elimination.proofs.solve.eliminate.Goals as goal

pub loop-b-init : goal.loop-b-init
loop-b-init g c =
    let v = g.T.Number in
    let t = c.args.table.now in
    let f = c.args.filed.now in
    let e = c.requires.empty in (
      omega (arith, e.0, e.1),
      nothing_written v.kind t.n f.found f.weights e.1,
      ap (λ s. eliminated v.kind t.n t.m s 0 (left v.kind t.n t.m t.coefficients.now 0)) (nothing_filed t.n (t.n + t.m) f.used f.found f.leads (map v.value c.split_at_mut-row.result.1.now) (map v.kind.counts f.weights) e.0 e.1)
          ∙ begins v.kind t.n t.m t.coefficients.now,
    )

pub returns-in_err-or : goal.returns-in_err-or
returns-in_err-or g c =
    let v = g.T.Number in
    let t = c.args.table.now in
    let l = c.loop-b in
    let s = state_in v.kind t.n (t.n + t.m) l.filed (map v.value l.rows) in
    let p = err_from_is_err_and c.from_residual.result c.from_residual.ensures.1 in
    let past = refused c.start_row.result _ _ _ _ (sym c.or.ensures ∙ c.in_err-or.was) c.start_row.ensures.past in
    rw p.1 (l.b, p.2 ∙ past.0 ∙ c.refusal_of-large.ensures, sym l.invariant.2 ∙ starts_past v.kind t.n t.m l.b c.loop-b-test.true t.coefficients.now c.row.result.now c.row.ensures.row s past.1.1)

pub invariant_of-kept : goal.invariant_of-kept
invariant_of-kept g c =
    let t = c.args.table.now in
    let l = c.loop-b in
    let ts = take (l.filed.used - 0) l.filed.leads in
    let k : length ts ≤ 32 = simp length-take (omega arith) in
    record { whole = omega (arith, all_rows (length ts) (t.n + t.m) k (omega (arith, t.few, t.narrow)), l.auto.rows, c.split_at_mut-row.ensures.back_len) }

pub returns-in_err-lead : goal.returns-in_err-lead
returns-in_err-lead g c =
    let v = g.T.Number in
    let t = c.args.table.now in
    let l = c.loop-b in
    let s = state_in v.kind t.n (t.n + t.m) l.filed (map v.value l.rows) in
    let u : l.filed.used - 0 ≡ l.filed.used = omega arith in
    let p = err_from_is_err_and c.from_residual-in_err-lead.result c.from_residual-in_err-lead.ensures.1 in
    let started = passed c.start_row.result _ _ _ _ (sym c.or.ensures ∙ c.in_ok-or.was) c.start_row.ensures.stored in
    let past = refused c.handle.result _ _ _ _ (sym c.or-in-loop-b.ensures ∙ c.in_err-lead.was) c.handle.ensures in
    let same = past.1.1 ∙ same_handled v.kind t.n t.m (length c.start_row.new.row) (omega arith) (ap (λ k. take k l.filed.leads) u) (map v.value l.rows) started.1 in
    rw p.1 (l.b, p.2 ∙ past.0 ∙ c.refusal_of-large.ensures, sym l.invariant.2 ∙ steps_past v.kind t.n t.m l.b c.loop-b-test.true t.coefficients.now c.row.result.now c.row.ensures.row s started.0 passes same refl)

pub keep-requires-clause-room : goal.keep-requires-clause-room
keep-requires-clause-room g c =
    let t = c.args.table.now in
    let l = c.loop-b in
    let e : length c.handle.new.row ≡ t.n + t.m = omega arith in
    let i = row_inside l.filed.used 32 (t.n + t.m) (omega (arith, l.invariant.0, t.few)) in
    let q = ap (λ z. l.filed.used * z) e in
    omega (arith, i, q, e, all_rows 32 (t.n + t.m) (omega arith) (omega (arith, t.few, t.narrow)), l.auto.rows, c.split_at_mut-row.ensures.back_len)

pub loop-b-preserved : goal.loop-b-preserved
loop-b-preserved g c =
    let v = g.T.Number in
    let t = c.args.table.now in
    let l = c.loop-b in
    let e : length c.handle.new.row ≡ t.n + t.m = omega arith in
    let s = state_in v.kind t.n (t.n + t.m) l.filed (map v.value l.rows) in
    let more = state_in v.kind t.n (t.n + t.m) c.keep.new.self (map v.value c.keep.new.rows) in
    let h = told v.kind c.in_ok-lead.lead (map v.value c.handle.new.row) in
    let u : l.filed.used - 0 ≡ l.filed.used = omega arith in
    let started = passed c.start_row.result _ _ _ _ (sym c.or.ensures ∙ c.in_ok-or.was) c.start_row.ensures.stored in
    let same = passed c.handle.result _ _ _ _ (sym c.or-in-loop-b.ensures ∙ c.in_ok-lead.was) c.handle.ensures ∙ same_handled v.kind t.n t.m (length c.start_row.new.row) (omega arith) (ap (λ k. take k l.filed.leads) u) (map v.value l.rows) started.1 in
    let some = ap (λ z. added v.kind t.n (state_in v.kind t.n z l.filed (map v.value l.rows)) h) (sym e) ∙ c.keep.ensures.kept
    ∙ ap (λ z. Some (state_in v.kind t.n z c.keep.new.self (map v.value c.keep.new.rows))) e in (
      omega (arith, c.keep.ensures.counted, l.invariant.0),
      c.keep.ensures.written,
      sym (turns v.kind t.n t.m l.b c.loop-b-test.true t.coefficients.now c.row.result.now c.row.ensures.row s started.0 h same more some) ∙ l.invariant.2,
    )

pub returns : goal.returns
returns g c =
    let v = g.T.Number in
    let t = c.args.table.now in
    let l = c.loop-b in
    let s = state_in v.kind t.n (t.n + t.m) l.filed (map v.value l.rows) in
    (omega (arith, l.invariant.0), l.invariant.1, sym l.invariant.2 ∙ ends v.kind t.n t.m t.coefficients.now s l.b (omega arith))
