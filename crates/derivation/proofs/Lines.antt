-- The lines of a belt, as the searches for them go.
use Rattle.std.proofs.Common.{◌≡◌, ℕ, suc, ◌+◌, ◌<◌, Bool, true, false, cond, not, List, [], ◌∷◌, length, get_or, Some, unwrap_or, count_by, refl, ap, ◌∙◌, add-zero, arith}
use Rattle.std.specs.List.{position_or_len}
use Rattle.std.proofs.lemmas.List.FromFn.{length-map-range_with_len, get_or-map-range_with_len}
use Rattle.sheet.specs.declared.node.Node.{Node}
use Rattle.sheet.specs.Nodes.{is_belt}
use Rattle.sheet.specs.Rules.{lowest}
use Rattle.terms.specs.Forms.{Form}
use Rattle.flows.specs.Flows.{flow_by, ports_of}
use Rattle.derivation.specs.Memory.{flows_by}

-- the first line that passes a test, by the search for the lowest
pub lowest_line : (p : Node → Bool) (i : ℕ) (ns : List Node) → unwrap_or (lowest (λ _ n. p n) i ns) (i + length ns) ≡ i + position_or_len p ns
lowest_line p i [] = refl
lowest_line p i (n ∷ ns) = by (p n) (lowest_line p (suc i) ns)
  where
    by : (b : Bool) → unwrap_or (lowest (λ _ n. p n) (suc i) ns) (suc i + length ns) ≡ suc i + position_or_len p ns
        → unwrap_or (cond b (Some i) (lowest (λ _ n. p n) (suc i) ns)) (i + suc (length ns)) ≡ i + cond (not b) (1 + position_or_len p ns) 0
    by true h = rw add-zero refl
    by false h =
        let lines : i + suc (length ns) ≡ suc i + length ns = omega arith in
        let place : suc i + position_or_len p ns ≡ i + (1 + position_or_len p ns) = omega arith in
        ap (unwrap_or (lowest (λ _ n. p n) (suc i) ns)) lines ∙ h ∙ place

-- the flows of the belts, by their numbers
pub flows_many : (ns : List Node) (fs : List Form) → length (flows_by ns fs) ≡ count_by is_belt ns
flows_many ns fs = length-map-range_with_len (λ b. flow_by fs (ports_of ns b)) 0 (count_by is_belt ns)

pub flow_at : (ns : List Node) (fs : List Form) (b : ℕ) → b < count_by is_belt ns → get_or (flows_by ns fs) b [] ≡ flow_by fs (ports_of ns b)
flow_at ns fs b h = get_or-map-range_with_len (λ k. flow_by fs (ports_of ns k)) 0 (count_by is_belt ns) b b [] h (omega arith)
