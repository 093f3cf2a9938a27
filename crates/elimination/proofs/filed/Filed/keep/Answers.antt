use Rattle.std.proofs.Common.{◌≡◌, ◌+◌, ◌-◌, ◌*◌, ◌≤◌, ◌++◌, map, length, take, drop, sym, ap, ◌∙◌, arith}
use Rattle.std.proofs.lemmas.List.{length-map, length-take-le, take-map}
use Rattle.kinds.specs.Elimination.{added}
use Rattle.elimination.specs.Memory.{told}
use Rattle.elimination.specs.States.{state_in}
use Rattle.elimination.proofs.Keeping.{added_lead, added_balance, still_written, room_for_weights}
use Rattle.elimination.proofs.filed.Filed.keep.Goals as goal

pub returns-in-Some-clause-kept : goal.returns-in-Some-clause-kept
returns-in-Some-clause-kept g c =
    let m = g.T.Number in
    let a = c.args in
    let f = a.self.now in
    ap (λ x. added m.kind a.n (state_in m.kind a.n (length a.row.now) f (map m.value a.rows.now)) (told m.kind x (map m.value a.row.now))) c.in-Some.is
    ∙ added_lead m.kind m.value a.n f.used f.found f.leads a.rows.now a.row.now (map m.kind.counts f.weights) c.in-Some.j c.keep_row.new.rows (omega arith) c.requires.room c.keep_row.ensures

pub returns-in-None : goal.returns-in-None
returns-in-None g c =
    let m = g.T.Number in
    let a = c.args in
    let f = a.self.now in
    let z : a.n - 0 ≡ a.n = omega arith in
    let r = take (a.n - 0) a.row.now in
    let new = map m.kind.writes (map m.value r) in
    let written : new ≡ map m.kind.writes (take a.n (map m.value a.row.now)) = ap (λ k. map m.kind.writes (map m.value (take k a.row.now))) z ∙ ap (map m.kind.writes) (sym (take-map m.value a.n a.row.now)) in
    let n : length r ≡ a.n = ap (λ k. length (take k a.row.now)) z ∙ length-take-le a.n a.row.now c.requires.long in
    let long : length new ≡ a.n = length-map (map m.value r) m.kind.writes ∙ length-map r m.value ∙ n in
    let at = f.found * a.n in
    let e = c.write_weights.ensures ∙ ap (λ k. take at f.weights ++ (new ++ drop (at + k) f.weights)) (n ∙ sym long) in
    let room : at + a.n ≤ length f.weights = omega (arith, room_for_weights f.found a.n (omega arith) c.requires.short) in
    let L = g.met.T.Number.lawful in
    record {
      kept = ap (λ x. added m.kind a.n (state_in m.kind a.n (length a.row.now) f (map m.value a.rows.now)) (told m.kind x (map m.value a.row.now))) c.in-None.is
          ∙ added_balance L a.n f.found f.weights c.write_weights.new.weights new (map m.value a.row.now) (length a.row.now) f.used f.leads (map m.value a.rows.now) written long room e;
      written = still_written L a.n f.found f.weights c.write_weights.new.weights new (map m.value a.row.now) written long room e c.requires.written;
      counted = omega arith;
    }
