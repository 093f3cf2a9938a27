-- Records taken in and out in place: what the inner functions leave. Assumes nothing.
use Rattle.std.specs.Prelude.{◌≡◌, ℕ, ◌+◌, ◌-◌, ◌<◌, ◌≤◌, List, ◌++◌, length, take, drop, slice_index_or}
use Rattle.std.specs.List.{insert, remove}
use Rattle.terms.specs.declared.term.Term.{Term}
use Rattle.terms.specs.Sets.{number_of}
use Rattle.terms.specs.Forms.{Form}
use Rattle.terms.specs.Records.{form_in}

-- i is the first place, of the first n, whose set is not below s
pub record Placed (s n : ℕ) (ts : List Term) (i : ℕ) : Type 0 where
  pub within : i ≤ n
  pub before : (k : ℕ) (d : Term) → k < i → number_of (slice_index_or ts k d).set < s
  pub here : (d : Term) → i < n → s ≤ number_of (slice_index_or ts i d).set

-- t put at place i of the first n, which move up by one; the rest stays
abbrev pub opened : List Term → ℕ → ℕ → Term → List Term
opened W n i t = take (n + 1) (insert W i t) ++ drop (n + 1) W

-- the record at place i of the first n taken out, so that those above it move down; the rest stays
abbrev pub closed : List Term → ℕ → ℕ → List Term
closed W n i = take (n - 1) (remove W i) ++ drop (n - 1) W

-- n is the number of terms of the form p, which the first n records hold; from place `reach` on, at or past n, they are as before
pub record InFront (reach : ℕ) (p : Form) (before after : List Term) (n : ℕ) : Type 0 where
  pub count : n ≡ length p
  pub within : n ≤ length after
  pub bound : n ≤ reach
  pub form : form_in (take n after) ≡ p
  pub rest : drop reach after ≡ drop reach before
