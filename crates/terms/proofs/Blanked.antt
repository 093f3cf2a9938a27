-- Records behind a form, blanked one by one.
use Rattle.std.proofs.Common.{◌≡◌, ℕ, ◌+◌, ◌-◌, ◌<◌, ◌≤◌, List, ◌++◌, map, length, get_or, take, drop, set, replicate, sym, ap, ◌∙◌, ap₂, arith}
use Rattle.std.proofs.lemmas.List.{append_assoc, take_at, length-append, length-drop, length-replicate, length-take-le, get_or-replicate, get_or_append_left, get_or-append_right, take-append-drop}
use Rattle.terms.specs.declared.term.Term.{Term}
use Rattle.terms.specs.Forms.{Form}
use Rattle.terms.specs.Records.{form_in, term_of, blank_term, Held}
use Rattle.terms.specs.Editing.{InFront}
use Rattle.terms.proofs.Over.{over, over_more}
use Rattle.terms.proofs.Recorded.{unread}

-- the first n records, blank ones up to place `reach`, and the later ones
abbrev pub blanked : List Term → ℕ → ℕ → List Term
blanked W n reach = take n W ++ (replicate (reach - n) blank_term ++ drop reach W)

module _ (W : List Term) (n reach : ℕ) (h : n ≤ reach) (l : reach ≤ length W) where
  in_use : length (take n W) ≡ n
  in_use = length-take-le n W (omega arith)

  size : length (blanked W n reach) ≡ length W
  size =
      length-append (take n W) (replicate (reach - n) blank_term ++ drop reach W)
      ∙ omega (arith, in_use, length-append (replicate (reach - n) blank_term) (drop reach W), length-replicate (reach - n) blank_term, length-drop reach W)

  -- what stands at a place behind the form
  at : (i : ℕ) → n ≤ i → i < reach → blank_term ≡ get_or (blanked W n reach) i unread
  at i a m =
      sym (get_or-append_right (take n W) _ n i unread in_use a
      ∙ get_or_append_left (replicate (reach - n) blank_term) (drop reach W) unread (i - n) (omega (arith, length-replicate (reach - n) blank_term))
      ∙ get_or-replicate (reach - n) (i - n) blank_term unread (omega arith))

  -- no place yet
  pub none : W ≡ over W (blanked W n reach) n
  none = sym (ap (λ ts. ts ++ drop n W) (take_at (take n W) (replicate (reach - n) blank_term ++ drop reach W) n in_use) ∙ take-append-drop n W)

  -- one place more
  pub more : (i : ℕ) → n ≤ i → i < reach → set (over W (blanked W n reach) i) i blank_term ≡ over W (blanked W n reach) (i + 1)
  more i a m = ap (set (over W (blanked W n reach) i) i) (at i a m) ∙ over_more W (blanked W n reach) i unread (omega arith) (omega (arith, size))

  -- all places up to the reach
  pub all : over W (blanked W n reach) reach ≡ blanked W n reach
  all =
      ap (λ ts. take reach ts ++ drop reach W) (sym (append_assoc (take n W) (replicate (reach - n) blank_term) (drop reach W)))
      ∙ ap (λ ts. ts ++ drop reach W) (take_at (take n W ++ replicate (reach - n) blank_term) (drop reach W) reach up)
      ∙ append_assoc (take n W) (replicate (reach - n) blank_term) (drop reach W)
    where
      up : length (take n W ++ replicate (reach - n) blank_term) ≡ reach
      up = length-append (take n W) (replicate (reach - n) blank_term) ∙ omega (arith, in_use, length-replicate (reach - n) blank_term)

-- a form in front is held, once what is behind it up to the reach is blank
pub settled : (reach n : ℕ) (p : Form) (before W W' : List Term) (reach' : ℕ) → W' ≡ take n W ++ (replicate (reach' - n) blank_term ++ drop reach' W)
    → map term_of (form_in (take n W)) ≡ take n W → reach' ≡ reach → InFront reach p before W n → Held reach p before W' n
settled reach n p before W W' reach' b e r f = record {
  count = f.count;
  bound = f.bound;
  form = ap (λ ts. form_in (take n ts)) b ∙ ap form_in (take_at (take n W) (replicate (reach' - n) blank_term ++ drop reach' W) n (length-take-le n W f.within)) ∙ f.form;
  records =
      b ∙ ap (λ k. take n W ++ (replicate (k - n) blank_term ++ drop k W)) r
      ∙ ap₂ (λ us vs. us ++ (replicate (reach - n) blank_term ++ vs)) (sym e ∙ ap (map term_of) f.form) f.rest;
}
