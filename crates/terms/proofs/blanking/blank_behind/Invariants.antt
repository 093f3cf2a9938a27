use Rattle.std.proofs.Common.{◌≡◌, ℕ, ◌<◌, ◌≤◌, get_or}
use Rattle.terms.specs.Records.{entry_of, term_of}
use Rattle.terms.proofs.Over.{over}
use Rattle.terms.proofs.Recorded.{unread}
use Rattle.terms.proofs.Blanked.{blanked}
use Rattle.terms.proofs.blanking.blank_behind.Given as goal

abbrev pub invariant-loop-t : goal.invariant-loop-t
invariant-loop-t l = (k : ℕ) → k < l.t-index → term_of (entry_of (get_or l.t-items k unread)) ≡ get_or l.t-items k unread

abbrev pub invariant-loop-i : goal.invariant-loop-i
invariant-loop-i l = (l.work ≡ over l.initial.work (blanked l.initial.work l.len l.reach) l.i) × (l.len ≤ l.i) × (l.i ≤ l.reach)
