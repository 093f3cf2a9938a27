-- Rows of numbers as far as they are written, beside what is left of them.
use Rattle.std.proofs.Common.{◌≡◌, ℕ, ◌+◌, ◌*◌, ◌<◌, List, [], ◌++◌, take, drop, ℤ, count_by, sym, ap, ◌∙◌, add-mul, arith}
use Rattle.std.proofs.lemmas.List.{append_assoc, append-nil, at_drop_more, at_drop_all}
use Rattle.sheet.specs.declared.node.Node.{Node}
use Rattle.sheet.specs.Nodes.{is_belt}
use Rattle.terms.specs.Records.{form_in}
use Rattle.terms.specs.declared.term.Term.{Term}
use Rattle.terms.specs.Forms.{Form}
use Rattle.flows.specs.Columns.{merged}
use Rattle.flows.specs.Flows.{flow_by, ports_of}
use Rattle.derivation.specs.Memory.{columns_in, flows_by, rows_over}
use Rattle.derivation.proofs.Lines.{flows_many, flow_at}

-- the numbers so far, and the rest of the row of what is left of the flow
abbrev pub row_from : List Term → List ℤ → Form → ℕ → List ℤ
row_from columns row p j = take j row ++ merged (columns_in (drop j columns)) p

-- the rows so far, and those of the flows that are left
abbrev pub rows_from : List ℕ → List Form → List ℤ → ℕ → ℕ → List ℤ
rows_from cs flows numbers m b = take (b * m) numbers ++ rows_over cs (drop b flows)

module _ (cs : List ℕ) (ns : List Node) (fs : List Form) (m b : ℕ) where
  -- the row of belt b, whose flow is in the first r working records
  pub rows_more : (before after : List ℤ) (work : List Term) (r : ℕ) → b < count_by is_belt ns → form_in (take r work) ≡ flow_by fs (ports_of ns b)
      → take (b * m + m) after ≡ take (b * m) before ++ merged cs (form_in (take r work)) → rows_from cs (flows_by ns fs) after m (b + 1) ≡ rows_from cs (flows_by ns fs) before m b
  rows_more before after work r h e f =
      let on : (b + 1) * m ≡ b * m + m = omega (arith, add-mul b 1 m) in
      let flow = form_in (take r work) in
      let rest = rows_over cs (drop (b + 1) (flows_by ns fs)) in
      ap (λ k. take k after ++ rest) on
      ∙ ap (λ zs. zs ++ rest) f
      ∙ append_assoc (take (b * m) before) (merged cs flow) rest
      ∙ ap (λ zs. take (b * m) before ++ zs)
      (ap (λ q. merged cs q ++ rest) (e ∙ sym (flow_at ns fs b h))
      ∙ sym (at_drop_more (rows_over cs) (flows_by ns fs) b [] (omega (arith, flows_many ns fs))))

  pub rows_all : (numbers : List ℤ) → count_by is_belt ns ≡ b → rows_from cs (flows_by ns fs) numbers m b ≡ take (count_by is_belt ns * m) numbers
  rows_all numbers h =
      ap (λ zs. take (b * m) numbers ++ zs) (at_drop_all (rows_over cs) (flows_by ns fs) b (omega (arith, flows_many ns fs)))
      ∙ append-nil (take (b * m) numbers) ∙ ap (λ k. take (k * m) numbers) (sym h)
