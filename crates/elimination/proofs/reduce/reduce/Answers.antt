use Rattle.std.proofs.Common.{◌+◌, ◌-◌, map, length, sym, ap, ◌∙◌, arith}
use Rattle.std.proofs.lemmas.Result.{err_from_is_err_and}
use Rattle.kinds.specs.Elimination.{handled}
use Rattle.elimination.specs.Memory.{kept_of}
use Rattle.kinds.proofs.Columns.{passes_by, leads_at, goes_on, refuses, at_end}
use Rattle.elimination.proofs.Scan.{tested}
use Rattle.elimination.proofs.reduce.reduce.Goals as goal

pub loop-j-preserved-then-is_zero : goal.loop-j-preserved-then-is_zero
loop-j-preserved-then-is_zero g c =
    let m = g.T.Number in
    let a = c.args in
    let k = kept_of a.kept.now.size a.kept.now.leads.now (map m.value a.kept.now.rows.now) in
    let z = tested m.kind m.value c.loop-j.row (a.n + c.loop-j.j) _ _ (omega arith) c.index-row-n.is c.if-is_zero.ensures in
    sym (passes_by m.kind a.n (length a.row.now - a.n) c.loop-j.j (omega arith) k (map m.value c.loop-j.row) z) ∙ c.loop-j.invariant

pub returns-in_default : goal.returns-in_default
returns-in_default g c =
    let m = g.T.Number in
    let a = c.args in
    let k = kept_of a.kept.now.size a.kept.now.leads.now (map m.value a.kept.now.rows.now) in
    let z = tested m.kind m.value c.loop-j.row (a.n + c.loop-j.j) _ _ (omega arith) c.index-row-n.is c.if-is_zero.ensures in
    (omega arith, sym (leads_at m.kind a.n (length a.row.now - a.n) c.loop-j.j (omega arith) k (map m.value c.loop-j.row) z c.in_default.ensures) ∙ c.loop-j.invariant)

pub returns-in_err-step : goal.returns-in_err-step
returns-in_err-step g c =
    let m = g.T.Number in
    let a = c.args in
    let k = kept_of a.kept.now.size a.kept.now.leads.now (map m.value a.kept.now.rows.now) in
    let z = tested m.kind m.value c.loop-j.row (a.n + c.loop-j.j) _ _ (omega arith) c.index-row-n.is c.if-is_zero.ensures in
    let p = err_from_is_err_and c.from_residual.result c.from_residual.ensures.1 in
    rw p.1 (sym (refuses m.kind a.n (length a.row.now - a.n) c.loop-j.j (omega arith) k (map m.value c.loop-j.row) _ z c.in-Some.ensures.1 c.in_err-step.ensures.past) ∙ c.loop-j.invariant)

pub loop-j-preserved : goal.loop-j-preserved
loop-j-preserved g c =
    let m = g.T.Number in
    let a = c.args in
    let n = length a.row.now - a.n in
    let k = kept_of a.kept.now.size a.kept.now.leads.now (map m.value a.kept.now.rows.now) in
    let z = tested m.kind m.value c.loop-j.row (a.n + c.loop-j.j) _ _ (omega arith) c.index-row-n.is c.if-is_zero.ensures in
    let s = c.in_ok-step.ensures.stored in
    ap (handled m.kind a.n k (n - (c.loop-j.j + 1)) (c.loop-j.j + 1)) s.1
    ∙ sym (goes_on m.kind a.n n c.loop-j.j (omega arith) k (map m.value c.loop-j.row) _ z c.in-Some.ensures.1 s.0) ∙ c.loop-j.invariant

pub returns : goal.returns
returns g c =
    let m = g.T.Number in
    let a = c.args in
    let k = kept_of a.kept.now.size a.kept.now.leads.now (map m.value a.kept.now.rows.now) in
    (tt, sym (at_end m.kind a.n (length a.row.now - a.n) c.loop-j.j (omega arith) k (map m.value c.loop-j.row)) ∙ c.loop-j.invariant)
