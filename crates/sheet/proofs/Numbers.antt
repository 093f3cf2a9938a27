-- With which numbers a test may refuse, and what comes after it.
use Rattle.std.proofs.Common.{ℕ, Bool, true, false, Option, Some, None, Result, Ok, Err, List}
use Rattle.std.specs.Prelude.{Contains, IfErr}
use Rattle.std.specs.Option.{ok_or}
use Rattle.sheet.specs.declared.fault.Fault.{Fault}
use Rattle.sheet.specs.declared.fault.Refusal.{Refusal}
use Rattle.sheet.specs.Refusals.{number, fault, IsOneOf, and_then, refuse_if, refuse_at}
use Rattle.sheet.specs.Outcomes.{written}

-- what a call may answer, where it may refuse with these numbers alone
abbrev pub Within : {A : Type 0} → List ℕ → Result A Fault → Type 0
Within ns r = IfErr r (IsOneOf ns)

module _ (ns : List ℕ) where
  pub then_within : {A B : Type 0} (r : Result A Fault) (f : A → Result B Fault) → Within ns r → ((x : A) → Within ns (f x)) → Within ns (and_then r f)
  then_within (Ok x) f h k = k x
  then_within (Err e) f h k = h

  pub if_within : {A : Type 0} (b : Bool) (r : Refusal) (p : ℕ) (rest : Result A Fault) → Contains ns (number r) → Within ns rest → Within ns (refuse_if b r p rest)
  if_within true r p rest c h = c
  if_within false r p rest c h = h

  pub at_within : {A : Type 0} (o : Option ℕ) (r : Refusal) (rest : Result A Fault) → Contains ns (number r) → Within ns rest → Within ns (refuse_at o r rest)
  at_within None r rest c h = h
  at_within (Some p) r rest c h = c

  pub or_within : {A : Type 0} (o : Option A) (r : Refusal) (p : ℕ) → Contains ns (number r) → Within ns (ok_or o (fault r p))
  or_within None r p c = c
  or_within (Some x) r p c = tt

  pub written_within : {X R M : Type 0} (tells : X → R) (writes : X → List M) (r : Result X Fault) (memory : List M) → Within ns r → Within ns (written tells writes r memory).answer
  written_within tells writes (Ok x) memory h = tt
  written_within tells writes (Err e) memory h = h
