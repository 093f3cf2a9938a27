use Rattle.std.proofs.Common.{◌+◌, List, length, set, replicate, pos, negsuc, ap, arith}
use Rattle.std.proofs.lemmas.List.{drop-set-lt}
use Rattle.terms.specs.declared.term.Term.{Term}
use Rattle.terms.specs.Forms.{norm, add_all, scaled, not_form}
use Rattle.terms.specs.Records.{form_in}
use Rattle.terms.proofs.Fitting.{gate_parts, first_put}
use Rattle.terms.proofs.Recorded.{onward}
use Rattle.terms.proofs.gates.negation.Goals as goal

abbrev one : Term
one = record { set = replicate 16 0; coefficient = pos 1 }

pub put_into-requires-clause-fits : goal.put_into-requires-clause-fits
put_into-requires-clause-fits c =
    let W = c.args.work.now in
    let h = gate_parts (length c.args.form.now + 1) W c.args.form.now c.args.form.now c.requires in
    omega (arith, ap (λ (ts : List Term). norm (form_in ts)) (first_put W one (omega arith)))

pub returns : goal.returns
returns c =
    let W = c.args.work.now in
    let F = form_in c.args.form.now in
    let n = length c.args.form.now in
    let h = gate_parts (length c.args.form.now + 1) W c.args.form.now c.args.form.now c.requires in
    let e = ap (λ (ts : List Term). add_all (form_in ts) (scaled 0 (negsuc 0) F)) (first_put W one (omega arith)) in
    onward (1 + n) (n + 1) c.put_into.result _ (not_form F) (set W 0 one) c.put_into.new.work W c.put_into.ensures e (omega arith)
    (drop-set-lt (n + 1) W 0 one (omega arith))
