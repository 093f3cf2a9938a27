use Rattle.std.proofs.Common.{◌≡◌, List, [], ◌∷◌, ◌++◌, map, ℤ, sym, ap, ◌∙◌, rules, arith}
use Rattle.std.proofs.lemmas.List.{map-append, append-nil}
use Rattle.std.specs.Iterator.Adapters.{take_source, take_count}
use Rattle.std.specs.Slice.Iter.{chunks_exact_rest}
use Rattle.elimination.specs.Memory.{rows_of}
use Rattle.simulate.specs.Balances.{BalanceValue, balance_in, new_balance}
use Rattle.simulate.proofs.Watching.{room_on, watched_on, none_left}
use Rattle.simulate.proofs.balance.balances_from.Goals as goal

pub loop-row-preserved : goal.loop-row-preserved
loop-row-preserved c =
    let l = c.loop-row in
    let n = c.args.belts in
    let f : List ℤ → BalanceValue = new_balance c.args.kind in
    let row = c.in-Some.row.now in
    let st = c.in-Some.ensures.steps in
    let step = st.0 in
    let rest = chunks_exact_rest (take_source l.row-iterator) in
    let rest' = chunks_exact_rest (take_source c.next.new.self) in
    let size = step.1.1 ∙ l.invariant.1 in
    let same : c.in_ok-to_vec.field-0.items ≡ row = c.in_ok-to_vec.ensures.items_if_clones_equal (search rules) in
    let pushed : map balance_in c.push.new.self.items ≡ map balance_in l.balances.items ++ f row ∷ [] =
    ap (map balance_in) c.in_ok-push.ensures.items ∙ map-append balance_in l.balances.items _ ∙ ap (λ ws. map balance_in l.balances.items ++ f ws ∷ []) same in (
      ap (λ xs. xs ++ map f (rows_of (take_count c.next.new.self) n rest')) pushed ∙ watched_on n _ _ rest row rest' step.1.0 size st.1 f _ _ l.invariant.0,
      step.0 ∙ l.invariant.1,
      room_on n _ _ rest row rest' step.1.0 size st.1 l.invariant.2,
    )

pub returns : goal.returns
returns c =
    let l = c.loop-row in
    let front = map balance_in l.balances.items in
    let rest = chunks_exact_rest (take_source l.row-iterator) in
    let none = none_left c.args.belts (take_count l.row-iterator) rest l.invariant.2 (λ h. let s = c.in-None.ensures.steps h in omega (arith, s.1.0, l.invariant.1)) in
    sym (append-nil front) ∙ ap (λ j. front ++ map (new_balance c.args.kind) (rows_of j c.args.belts rest)) (sym none) ∙ l.invariant.0
