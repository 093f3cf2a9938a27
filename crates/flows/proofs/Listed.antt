-- The columns of flows rise, hold every term, and grow in number.
use Rattle.std.proofs.Common.{◌≡◌, ℕ, suc, ◌≤◌, cond, ltb, ◌⊎◌, List, [], ◌∷◌, length, refl, inl, inr, arith}
use Rattle.std.specs.List.{fold, AllByRecursion}
use Rattle.std.proofs.ByRecursion.{All-weaker}
use Rattle.std.proofs.lemmas.Bool.{cond_both, ltb-true, ltb-false}
use Rattle.terms.specs.Forms.{Form}
use Rattle.flows.specs.Columns.{listed, with_form, columns_of}

-- the columns rise from lo on
abbrev pub Climbs : ℕ → List ℕ → Type 0
Climbs lo [] = Unit {0}
Climbs lo (c ∷ cs) = (lo ≤ c) × Climbs (suc c) cs

-- a term is a column
abbrev pub In : ℕ → List ℕ → Type 0
In s [] = ⊥
In s (c ∷ cs) = (c ≡ s) ⊎ In s cs

-- every term of a form is a column
abbrev pub Covered : List ℕ → Form → Type 0
Covered cs p = AllByRecursion (λ t. In t.0 cs) p

pub least : (s lo : ℕ) (cs : List ℕ) → Climbs lo cs → In s cs → lo ≤ s
least s lo [] w h = absurd h
least s lo (c ∷ cs) w (inl e) = omega arith
least s lo (c ∷ cs) w (inr h) = let l = least s (suc c) cs w.1 h in omega arith

-- ---- one more column

-- what holds with the term in front, past the first column, and without it
listed_cases : (P : List ℕ → Type 0) (s c : ℕ) (cs : List ℕ) → (suc s ≤ c → P (s ∷ c ∷ cs)) → (suc c ≤ s → P (c ∷ listed s cs)) → (c ≡ s → P (c ∷ cs)) → P (listed s (c ∷ cs))
listed_cases P s c cs before later same =
    cond_both (ltb s c) (s ∷ c ∷ cs) (cond (ltb c s) (c ∷ listed s cs) (c ∷ cs)) P
    (λ e. before (ltb-true s c e))
    (λ e. cond_both (ltb c s) (c ∷ listed s cs) (c ∷ cs) P (λ f. later (ltb-true c s f))
    (λ f. same (omega (arith, ltb-false s c e, ltb-false c s f))))

pub listed_climbs : (lo s : ℕ) (cs : List ℕ) → lo ≤ s → Climbs lo cs → Climbs lo (listed s cs)
listed_climbs lo s [] h w = (h, tt)
listed_climbs lo s (c ∷ cs) h w =
    let ih = listed_climbs (suc c) s cs in
    listed_cases (Climbs lo) s c cs (λ l. (h, (l, w.1))) (λ l. (w.0, ih l w.1)) (λ e. w)

pub listed_new : (s : ℕ) (cs : List ℕ) → In s (listed s cs)
listed_new s [] = inl refl
listed_new s (c ∷ cs) = let ih = listed_new s cs in listed_cases (In s) s c cs (λ l. inl refl) (λ l. inr ih) (λ e. inl e)

pub listed_old : (s x : ℕ) (cs : List ℕ) → In x cs → In x (listed s cs)
listed_old s x [] h = absurd h
listed_old s x (c ∷ cs) h = let ih = listed_old s x cs in listed_cases (In x) s c cs (λ l. inr h) (λ l. past h ih) (λ e. h)
  where
    past : In x (c ∷ cs) → (In x cs → In x (listed s cs)) → In x (c ∷ listed s cs)
    past (inl e) ih = inl e
    past (inr k) ih = inr (ih k)

pub listed_grow : (s : ℕ) (cs : List ℕ) → length cs ≤ length (listed s cs)
listed_grow s [] = omega arith
listed_grow s (c ∷ cs) =
    let ih = listed_grow s cs in
    listed_cases (λ (ds : List ℕ). suc (length cs) ≤ length ds) s c cs (λ l. omega arith) (λ l. omega arith) (λ e. omega arith)

-- ---- the terms of a form

pub form_climbs : (cs : List ℕ) (p : Form) → Climbs 0 cs → Climbs 0 (with_form cs p)
form_climbs cs [] w = w
form_climbs cs (t ∷ p) w = form_climbs (listed t.0 cs) p (listed_climbs 0 t.0 cs (omega arith) w)

pub form_old : (x : ℕ) (cs : List ℕ) (p : Form) → In x cs → In x (with_form cs p)
form_old x cs [] h = h
form_old x cs (t ∷ p) h = form_old x (listed t.0 cs) p (listed_old t.0 x cs h)

pub form_new : (cs : List ℕ) (p : Form) → Covered (with_form cs p) p
form_new cs [] = tt
form_new cs (t ∷ p) = (form_old t.0 (listed t.0 cs) p (listed_new t.0 cs), form_new (listed t.0 cs) p)

pub columns_grow : (cs : List ℕ) (p : Form) → length cs ≤ length (with_form cs p)
columns_grow cs [] = omega arith
columns_grow cs (t ∷ p) = let a = listed_grow t.0 cs in let b = columns_grow (listed t.0 cs) p in omega arith

-- ---- the terms of forms

pub forms_climb : (cs : List ℕ) (ps : List Form) → Climbs 0 cs → Climbs 0 (fold with_form cs ps)
forms_climb cs [] w = w
forms_climb cs (p ∷ ps) w = forms_climb (with_form cs p) ps (form_climbs cs p w)

pub forms_old : (x : ℕ) (cs : List ℕ) (ps : List Form) → In x cs → In x (fold with_form cs ps)
forms_old x cs [] h = h
forms_old x cs (p ∷ ps) h = forms_old x (with_form cs p) ps (form_old x cs p h)

pub forms_new : (cs : List ℕ) (ps : List Form) → AllByRecursion (Covered (fold with_form cs ps)) ps
forms_new cs [] = tt
forms_new cs (p ∷ ps) =
    let ds = with_form cs p in
    (All-weaker (λ (t : ℕ × _). In t.0 ds) (λ t. In t.0 (fold with_form ds ps)) (λ t h. forms_old t.0 ds ps h) p (form_new cs p), forms_new ds ps)

pub all_columns_grow : (cs : List ℕ) (ps : List Form) → length cs ≤ length (fold with_form cs ps)
all_columns_grow cs [] = omega arith
all_columns_grow cs (p ∷ ps) = let a = columns_grow cs p in let b = all_columns_grow (with_form cs p) ps in omega arith

-- the columns rise
pub columns_climb : (flows : List Form) → Climbs 0 (columns_of flows)
columns_climb flows = forms_climb [] flows tt

-- the columns cover every flow
pub columns_cover : (flows : List Form) → AllByRecursion (Covered (columns_of flows)) flows
columns_cover flows = forms_new [] flows
