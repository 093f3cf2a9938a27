-- With which numbers a text's list may be refused.
use Rattle.std.proofs.Common.{◌≡◌, List, [], ◌∷◌, Ok, Err, Result, sym, refl, subst, arith}
use Rattle.std.specs.Prelude.{MatchResult}
use Rattle.std.proofs.lemmas.List.Elements.{Contains-append_left}
use Rattle.sheet.specs.declared.node.Node.{Node}
use Rattle.sheet.specs.declared.fault.Fault.{Fault}
use Rattle.sheet.specs.declared.fault.Refusal.TheVariants.{ShortText}
use Rattle.sheet.specs.Refusals.{number, fault, IsOneOf, load_numbers, list_numbers}
use Rattle.sheet.proofs.Numbers.{Within, then_within}
use Rattle.kinds.specs.Kinds.{wholes}
use Rattle.flows.specs.Derivation.{derived}
use Rattle.flows.proofs.Numbered.{derived_within}
use Rattle.listing.specs.Listing.{list_of_nodes}

-- the numbers of loading and of text memory are among those of the list
pub loading_listed : (f : Fault) → IsOneOf load_numbers f → IsOneOf list_numbers f
loading_listed f h = Contains-append_left load_numbers (15 ∷ 16 ∷ 17 ∷ 18 ∷ 19 ∷ 23 ∷ []) (number f.refusal) h

pub short_listed : (f : Fault) → f ≡ fault ShortText 0 → IsOneOf list_numbers f
short_listed f e = subst (IsOneOf list_numbers) (sym e) (12, omega arith, refl)

-- and those of derivation
nodes_within : (ns : List Node) → Within list_numbers (list_of_nodes ns)
nodes_within ns =
    then_within list_numbers (derived wholes ns) _
    (derived_within list_numbers (7, omega arith, refl) (8, omega arith, refl) (9, omega arith, refl) (10, omega arith, refl) (11, omega arith, refl) wholes ns) (λ bs. tt)

-- what answers as the list of some nodes does
pub nodes_listed : {B : Type 0} (ns : List Node) (P : B → Type 0) (r : Result B Fault) → MatchResult r P (λ f. list_of_nodes ns ≡ Err f) → Within list_numbers r
nodes_listed ns P (Ok b) h = tt
nodes_listed ns P (Err f) h = subst (Within list_numbers) h (nodes_within ns)
