use Rattle.std.proofs.Common.{ltb, nat_abs, ◌∙◌, rules, tests}
use Rattle.std.proofs.lemmas.Iterator.{YieldsList-from_slice}
use Rattle.std.proofs.lemmas.Iterator.Search.{any_from_yields_List}
use Rattle.terms.specs.declared.term.Term.{Term}
use Rattle.forms.proofs.Limits.{any_large}
use Rattle.forms.proofs.gates.is_large.Goals as goal

pub returns : goal.returns
returns c =
    any_from_yields_List (λ (t : Term). ltb 8388608 (nat_abs t.coefficient)) _ _ c.any.result c.any.ensures.ran (YieldsList-from_slice c.args.form.now (cc)) (λ x b q k. search (rules, tests))
    ∙ any_large c.args.form.now
