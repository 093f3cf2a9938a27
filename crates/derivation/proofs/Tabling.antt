-- From columns and rows in memory to the table of a sheet's flows.
use Rattle.std.proofs.Common.{◌≡◌, ℕ, ◌*◌, ◌<◌, ◌≤◌, List, length, take, ℤ, Ok, Err, count_by, sym, refl, ap, ◌∙◌, ap₂, arith}
use Rattle.std.specs.List.{flat_map}
use Rattle.std.proofs.lemmas.List.{length-take-le}
use Rattle.std.proofs.lemmas.List.Folds.{flat_map-map}
use Rattle.std.proofs.lemmas.Bool.{lt-ltb, le-ltb}
use Rattle.sheet.specs.declared.node.Node.{Node}
use Rattle.sheet.specs.declared.fault.Refusal.TheVariants.{ManyColumns}
use Rattle.sheet.specs.Nodes.{is_belt}
use Rattle.sheet.specs.Refusals.{fault}
use Rattle.terms.specs.declared.term.Term.{Term}
use Rattle.terms.specs.Forms.{Form}
use Rattle.forms.specs.Slots.{Allowed}
use Rattle.flows.specs.Columns.{columns_of, merged, table}
use Rattle.flows.specs.Flows.{flows_of}
use Rattle.flows.proofs.Flowing.{all_flows_rise}
use Rattle.flows.proofs.Merging.{merges}
use Rattle.derivation.proofs.Found.{many_columns}
use Rattle.derivation.specs.declared.columns.Columns.{Columns}
use Rattle.derivation.specs.Memory.{columns_in, flows_by, rows_over}
use Rattle.derivation.specs.Tables.{sets_in, tested}

module _ (ns : List Node) (fs : List Form) (allowed : Allowed ns fs) where
  abbrev belts : ℕ
  belts = count_by is_belt ns

  same_flows : flows_by ns fs ≡ flows_of ns
  same_flows = ap (flows_by ns) allowed.forms

  -- past 256 columns there is no table
  pub past_columns : 256 < length (columns_of (flows_by ns fs)) → tested ns ≡ Err (fault ManyColumns 0)
  past_columns h =
      let many : 256 < length (columns_of (flows_of ns)) = rw same_flows at h in
      rw (allowed.within, lt-ltb 256 _ many) refl

  -- the columns are listed, and the rows of the flows over them are filled
  module _ (c : Columns) (few : c.used ≤ 256) (listed : sets_in c ≡ columns_of (flows_by ns fs)) where
    columns_are : sets_in c ≡ columns_of (flows_of ns)
    columns_are = listed ∙ ap columns_of same_flows

    pub columns_many : c.used ≡ length (columns_of (flows_of ns))
    columns_many = sym (many_columns c) ∙ ap length columns_are

    pub within_limits : tested ns ≡ Ok tt
    within_limits = rw (allowed.within, le-ltb 256 (length (columns_of (flows_of ns))) (omega (arith, columns_many))) refl

    pub table_rows : (numbers : List ℤ) (ts : List Term) → ts ≡ take c.used c.records → take (belts * length ts) numbers ≡ rows_over (columns_in ts) (flows_by ns fs)
        → take (belts * c.used) numbers ≡ flat_map (λ row. row) (table (flows_of ns))
    table_rows numbers ts lent e =
        ap (λ k. take (belts * k) numbers) (sym (ap length lent ∙ length-take-le c.used c.records (omega (arith, c.whole, c.within)))) ∙ e
        ∙ ap₂ rows_over (ap columns_in lent ∙ columns_are) same_flows
        ∙ sym (flat_map-map (λ row. row) (merged (columns_of (flows_of ns))) (flows_of ns))
        ∙ ap (flat_map (λ row. row)) (merges (flows_of ns) (all_flows_rise ns))
