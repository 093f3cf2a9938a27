use Rattle.std.proofs.Common.{◌≡◌, ◌*◌, map, length, take, drop, ap, ◌∙◌, arith}
use Rattle.std.proofs.lemmas.List.{length-take, length-drop}
use Rattle.elimination.proofs.Scan.{found_none, row_found, row_inside}
use Rattle.elimination.proofs.kept.Kept.led_by.Goals as goal

pub returns-in_err-r : goal.returns-in_err-r
returns-in_err-r g c =
    let s = c.args.self.now in
    rw c.from_residual.ensures (found_none s.size c.args.j s.leads.now (map g.T.Number.value s.rows.now) c.in_err-r.ensures)

pub returns : goal.returns
returns g c =
    let m = g.T.Number in
    let s = c.args.self.now in
    let f = c.in_ok-r.ensures in
    let i = row_inside c.in_ok-r.r (length s.leads.now) s.size f.0 in
    let n : length (take s.size (drop (c.in_ok-r.r * s.size) s.rows.now)) ≡ s.size = simp (length-take, length-drop) (omega (arith, i, s.whole)) in
    (ap length c.row_at.ensures ∙ n, row_found m.value s.size c.args.j s.leads.now s.rows.now _ c.in_ok-r.r f c.row_at.ensures)
