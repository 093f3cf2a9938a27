use Rattle.std.proofs.Common.{ℕ, sym, ◌∙◌, ap₂, ◌++◌, [], ◌∷◌, unwrap_or, arith}
use Rattle.std.proofs.lemmas.List.FromFn.{map-range_with_len_more}
use Rattle.line.specs.Lines.{read}
use Rattle.line.specs.Views.{view}
use Rattle.simulate.proofs.watch.counts_of.Goals as goal

pub loop-b-preserved : goal.loop-b-preserved
loop-b-preserved g c =
    let count : ℕ → ℕ = λ b. unwrap_or (read (view g.B.Bank.belts c.args.line.now) b) 0 in
    c.in_ok-push.ensures.items ∙ ap₂ (λ xs n. xs ++ n ∷ []) c.loop-b.invariant c.count_of.ensures
    ∙ sym (map-range_with_len_more count 0 c.loop-b.b c.loop-b.b (omega arith))
