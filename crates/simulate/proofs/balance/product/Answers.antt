use Rattle.std.proofs.Common.{rules, w32, SFits, subst, ◌∙◌, ◌≤ℤ◌, neg_ℤ, pos, ◌^◌, ℤ, sym}
use Rattle.std.proofs.lemmas.Int.{to_z-of_z}
use Rattle.simulate.proofs.Sums.{wide_product, product_bounds}
use Rattle.simulate.proofs.balance.product.Goals as goal

pub returns : goal.returns
returns c =
    let fits : SFits w32 c.args.weight = search rules in
    let weight = c.from.ensures ∙ to_z-of_z w32 c.args.weight fits in
    let e = wide_product c.from.result c.from-2.result c.args.weight _ weight (search rules) fits (search rules) in
    let b = product_bounds c.from.result c.from-2.result c.args.weight _ weight (search rules) fits (search rules) in
    record { value = e; above = subst (λ (z : ℤ). neg_ℤ (pos (2 ^ 47)) ≤ℤ z) (sym e) b.0; below = subst (λ (z : ℤ). z ≤ℤ pos (2 ^ 47)) (sym e) b.1 }
