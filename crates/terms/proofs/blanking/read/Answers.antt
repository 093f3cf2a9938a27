use Rattle.std.proofs.Common.{◌≡◌, ℕ, ◌<◌, length, get_or, rules}
use Rattle.terms.proofs.Recorded.{term_back}
use Rattle.terms.proofs.blanking.read.Goals as goal

pub returns : goal.returns
returns c =
    let s = c.args.term.set in
    let l : length s ≡ 16 = search rules in
    let b : (k : ℕ) → k < length s → get_or s k 0 < 256 = search rules in
    term_back c.args.term l b
