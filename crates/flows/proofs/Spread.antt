-- A sum over columns, each counted in the rows where its wires are all high.
use Rattle.std.proofs.Common.{◌≡◌, ℕ, suc, ◌<◌, Bool, true, false, eqb, List, [], ◌∷◌, ℤ, pos, ◌+ℤ◌, ◌*ℤ◌, sym, refl, ap, ◌∙◌, subst, ap₂, inl, inr, arith}
use lib.IntN.{+ℤ_idr, +ℤ_idl, *ℤ-zero}
use Rattle.std.specs.List.{AllByRecursion}
use Rattle.std.proofs.lemmas.Int.{ints}
use Rattle.std.proofs.lemmas.Bool.{eq-eqb, ne_eqb}
use Rattle.terms.specs.Forms.{Form, high, value}
use Rattle.terms.proofs.BitLaws.{low_above, high_self}
use Rattle.terms.proofs.IntLaws.{mul_sum}
use Rattle.terms.proofs.Values.{share}
use Rattle.flows.specs.Columns.{coefficient}
use Rattle.flows.proofs.Listed.{Climbs, In, Covered, least}

abbrev pub spread : (ℕ → ℤ) → List ℕ → ℕ → ℤ
spread f [] r = pos 0
spread f (c ∷ cs) r = share (high c r) (f c) +ℤ spread f cs r

share_sum : (b : Bool) (c d : ℤ) → share b (c +ℤ d) ≡ share b c +ℤ share b d
share_sum true c d = refl
share_sum false c d = refl

share_scale : (b : Bool) (k c : ℤ) → share b (k *ℤ c) ≡ k *ℤ share b c
share_scale true k c = refl
share_scale false k c = sym (*ℤ-zero k)

share_null : (b : Bool) → share b (pos 0) ≡ pos 0
share_null true = refl
share_null false = refl

pub spread_sum : (f g : ℕ → ℤ) (cs : List ℕ) (r : ℕ) → spread (λ c. f c +ℤ g c) cs r ≡ spread f cs r +ℤ spread g cs r
spread_sum f g [] r = refl
spread_sum f g (c ∷ cs) r =
    let x = share_sum (high c r) (f c) (g c) in
    let y = spread_sum f g cs r in
    omega (arith, ints)

pub spread_scale : (k : ℤ) (f : ℕ → ℤ) (cs : List ℕ) (r : ℕ) → spread (λ c. k *ℤ f c) cs r ≡ k *ℤ spread f cs r
spread_scale k f [] r = sym (*ℤ-zero k)
spread_scale k f (c ∷ cs) r =
    ap₂ (λ (x y : ℤ). x +ℤ y) (share_scale (high c r) k (f c)) (spread_scale k f cs r)
    ∙ sym (mul_sum k (share (high c r) (f c)) (spread f cs r))

pub spread_none : (cs : List ℕ) (r : ℕ) → spread (λ c. pos 0) cs r ≡ pos 0
spread_none [] r = refl
spread_none (c ∷ cs) r = ap₂ (λ (x y : ℤ). x +ℤ y) (share_null (high c r)) (spread_none cs r)

-- columns above the row count for nothing
above : (f : ℕ → ℤ) (lo r : ℕ) (cs : List ℕ) → r < lo → Climbs lo cs → spread f cs r ≡ pos 0
above f lo r [] h w = refl
above f lo r (c ∷ cs) h w =
    ap₂ (λ (b : Bool) (z : ℤ). share b (f c) +ℤ z) (low_above c r (omega arith)) (above f (suc c) r cs (omega arith) w.1)

-- with its lowest column as the row, a sum is what stands in that column
lowest : (f : ℕ → ℤ) (lo c : ℕ) (cs : List ℕ) → Climbs lo (c ∷ cs) → spread f (c ∷ cs) c ≡ f c
lowest f lo c cs w =
    ap₂ (λ (b : Bool) (z : ℤ). share b (f c) +ℤ z) (high_self c) (above f (suc c) c cs (omega arith) w.1) ∙ +ℤ_idr (f c)

-- ---- a form's value over columns that cover it

absent : (s lo : ℕ) (z : ℤ) (cs : List ℕ) (r : ℕ) → s < lo → Climbs lo cs → spread (λ c. share (eqb s c) z) cs r ≡ pos 0
absent s lo z [] r h w = refl
absent s lo z (c ∷ cs) r h w =
    ap₂ (λ (x y : ℤ). x +ℤ y) (ap (λ (b : Bool). share (high c r) (share b z)) (ne_eqb s c (λ e. omega arith)) ∙ share_null (high c r))
    (absent s (suc c) z cs r (omega arith) w.1)

once : (s lo : ℕ) (z : ℤ) (cs : List ℕ) (r : ℕ) → Climbs lo cs → In s cs → spread (λ c. share (eqb s c) z) cs r ≡ share (high s r) z
once s lo z [] r w h = absurd h
once s lo z (c ∷ cs) r w (inl e) =
    ap₂ (λ (x y : ℤ). x +ℤ y)
    (ap (λ (b : Bool). share (high c r) (share b z)) (eq-eqb s c (sym e)) ∙ ap (λ (x : ℕ). share (high x r) z) e)
    (absent s (suc c) z cs r (omega arith) w.1)
    ∙ +ℤ_idr (share (high s r) z)
once s lo z (c ∷ cs) r w (inr h) =
    let l = least s (suc c) cs w.1 h in
    ap₂ (λ (x y : ℤ). x +ℤ y) (ap (λ (b : Bool). share (high c r) (share b z)) (ne_eqb s c (λ e. omega arith)) ∙ share_null (high c r))
    (once s (suc c) z cs r w.1 h)
    ∙ +ℤ_idl (share (high s r) z)

pub value_spread : (lo : ℕ) (cs : List ℕ) (p : Form) (r : ℕ) → Climbs lo cs → Covered cs p → value p r ≡ spread (coefficient p) cs r
value_spread lo cs [] r w h = sym (spread_none cs r)
value_spread lo cs (t ∷ p) r w h =
    ap₂ (λ (x y : ℤ). x +ℤ y) (sym (once t.0 lo t.1 cs r w h.0)) (value_spread lo cs p r w h.1)
    ∙ sym (spread_sum (λ c. share (eqb t.0 c) t.1) (coefficient p) cs r)

-- ---- what counts as zero

pub record Ideal (Z : ℤ → Type 0) : Type 0 where
  pub none : Z (pos 0)
  pub both : (x y : ℤ) → Z x → Z y → Z (x +ℤ y)
  pub rest : (x y : ℤ) → Z x → Z (x +ℤ y) → Z y

module _ {Z : ℤ → Type 0} (N : Ideal Z) (f : ℕ → ℤ) where
  share_zero : (b : Bool) (x : ℤ) → Z x → Z (share b x)
  share_zero true x h = h
  share_zero false x h = N.none

  -- zero in every column is zero in every row
  pub spread_from : (cs : List ℕ) (r : ℕ) → AllByRecursion (λ c. Z (f c)) cs → Z (spread f cs r)
  spread_from [] r h = N.none
  spread_from (c ∷ cs) r h = N.both _ _ (share_zero (high c r) (f c) h.0) (spread_from cs r h.1)

  -- zero in each column's own row is zero in every column
  pub spread_back : (lo : ℕ) (cs : List ℕ) → Climbs lo cs → ((r : ℕ) → Z (spread f cs r)) → AllByRecursion (λ c. Z (f c)) cs
  spread_back lo [] w h = tt
  spread_back lo (c ∷ cs) w h =
      let here : Z (f c) = subst Z (lowest f lo c cs w) (h c) in
      (here, spread_back (suc c) cs w.1 (λ r. N.rest _ _ (share_zero (high c r) (f c) here) (h r)))
