use Rattle.std.proofs.Common.{◌≡◌, ℕ, ◌<◌, length, get_or, rules}
use Rattle.terms.proofs.Recorded.{term_back}
use Rattle.terms.proofs.merging.write.Goals as goal

pub returns-clause-term : goal.returns-clause-term
returns-clause-term c =
    let s = c.args.t.set in
    let l : length s ≡ 16 = search rules in
    let b : (k : ℕ) → k < length s → get_or s k 0 < 256 = search rules in
    term_back c.args.t l b
