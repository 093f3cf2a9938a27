-- One node more in a draft.
use Rattle.std.proofs.Common.{◌≡◌, ℕ, ◌+◌, ◌<◌, true, List, [], ◌∷◌, ◌++◌, get_or, take, set, replicate, count_by, sym, refl, ap, ◌∙◌, subst, ⊎_elim, arith}
use Rattle.std.proofs.lemmas.Bool.{cases_lt}
use Rattle.std.proofs.lemmas.List.{take_more_set, get_or_past, get_or-replicate}
use Rattle.sheet.specs.Words.{Node}
use Rattle.sheet.specs.Parts.{is_part}
use Rattle.sheet.specs.declared.parts.Part.{Part}
use Rattle.sheet.specs.declared.parts.Part.TheVariants as Of
use Rattle.sheet.specs.declared.sheet.tally.Parts.{Parts}
use Rattle.sheet.specs.declared.sheet.draft.Draft.{Draft}
use Rattle.sheet.specs.Nodes.{is_belt, is_free}
use Rattle.sheet.specs.Rules.{sizes_fit, order_fits, Ordered}
use Rattle.sheet.specs.Wires.{bit}
use Rattle.sheet.specs.Drafts.{counted, no_parts, Tallied}
use Rattle.sheet.proofs.Counting.{count_push}
use Rattle.sheet.proofs.Sizes.{Sizes, sizes_parts, ordered_push}

pub none_counted : (b : ℕ) → ◌≡◌ {A = ℕ} (get_or (replicate 32 0) b 0) 0
none_counted b = ⊎_elim (get_or-replicate 32 b 0 0) (get_or_past (replicate 32 0) b 0) (cases_lt b 32)

-- 32 belts that have no parts
pub no_parts_counted : (none : Parts) → none.rooms ≡ 0 → none.items ≡ 0 → none.bits ≡ 0 → (p : Part) (b : ℕ) → counted p (get_or (replicate 32 none) b no_parts) ≡ 0
no_parts_counted none r i t p b =
    ⊎_elim (λ h. ap (counted p) (get_or-replicate 32 b none no_parts h) ∙ in_each p) (λ h. ap (counted p) (get_or_past (replicate 32 none) b no_parts h) ∙ in_none p) (cases_lt b 32)
  where
    in_each : (p : Part) → counted p none ≡ 0
    in_each Of.Room = r
    in_each Of.Item = i
    in_each Of.Bit = t

    in_none : (p : Part) → counted p no_parts ≡ 0
    in_none Of.Room = refl
    in_none Of.Item = refl
    in_none Of.Bit = refl

module _ (d : Draft) where
  -- the nodes so far
  abbrev pub before : List Node
  before = take d.len d.nodes

  -- a node more, whose tests gave the counts b and f more of belts and of free wires
  module _ (n : Node) (b f : ℕ) (eb : b ≡ bit (is_belt n)) (ef : f ≡ bit (is_free n)) where
    belts_more : d.belts + b ≡ count_by is_belt (before ++ n ∷ [])
    belts_more = rw (d.counted, eb) (sym (count_push is_belt before n))

    free_more : d.free + f ≡ count_by is_free (before ++ n ∷ [])
    free_more = rw (d.tallied, ef) (sym (count_push is_free before n))

    module _ (s : sizes_fit (d.len + 1) (d.belts + b) (d.free + f) ≡ true) (o : order_fits before n ≡ true) where
      pub fits : Sizes (d.len + 1) (d.belts + b) (d.free + f)
      fits = sizes_parts _ _ _ s

      pub after : take (d.len + 1) (set d.nodes d.len n) ≡ before ++ n ∷ []
      after = take_more_set d.nodes d.len n (omega (arith, d.whole, fits))

      pub belts_counted : d.belts + b ≡ count_by is_belt (take (d.len + 1) (set d.nodes d.len n))
      belts_counted = rw after belts_more

      pub free_counted : d.free + f ≡ count_by is_free (take (d.len + 1) (set d.nodes d.len n))
      free_counted = rw after free_more

      pub stays_ordered : Ordered (take (d.len + 1) (set d.nodes d.len n))
      stays_ordered = subst Ordered (sym after) (ordered_push before n d.ordered o)

      pub stays_tallied : (old new : List Parts) → Tallied before old → ((p : Part) (b : ℕ) → b < 32 → counted p (get_or new b no_parts) ≡ counted p (get_or old b no_parts) + bit (is_part p b n)) → Tallied (take (d.len + 1) (set d.nodes d.len n)) new
      stays_tallied old new told more p b h =
          more p b h ∙ ap (λ m. m + bit (is_part p b n)) (told p b h) ∙ sym (count_push (is_part p b) before n) ∙ ap (count_by (is_part p b)) (sym after)
