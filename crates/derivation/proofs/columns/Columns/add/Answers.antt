use Rattle.std.proofs.Common.{◌∙◌, arith}
use Rattle.derivation.proofs.Found.{one_more}
use Rattle.derivation.proofs.columns.Columns.add.Goals as goal

pub invariant_of-self : goal.invariant_of-self
invariant_of-self c =
    let h = one_more _ c.args.self.now _ _ _ c.requires.room c.requires.few c.add_term.ensures c.unwrap_or-self.ensures in
    let whole = c.add_term.auto.work ∙ c.args.self.now.whole in
    record { whole = whole; within = omega (arith, h.within, whole); found = h.found }

pub returns : goal.returns
returns c =
    let h = one_more _ c.args.self.now _ _ _ c.requires.room c.requires.few c.add_term.ensures c.unwrap_or-self.ensures in
    record { columns = h.columns; few = h.few }
