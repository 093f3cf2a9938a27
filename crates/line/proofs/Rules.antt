-- What the rules of a sheet say of its belts and its flops.
use Rattle.std.proofs.Common.{◌≡◌, ℕ, zero, suc, ◌+◌, ◌<◌, ◌≤◌, Bool, true, false, cond, not, ◌||◌, eqb, ltb, leb, List, [], ◌∷◌, length, get_or, take, count_by, refl, ap, ◌∙◌, ⊎_elim, arith}
use Rattle.std.proofs.lemmas.Bool.{cases_lt, and_parts, ltb-true, leb-true, ne_eqb}
use Rattle.sheet.specs.declared.class.Class.TheVariants as Of
use Rattle.sheet.specs.Nodes.{is_belt, is_free, is_room_of, is_item_of, is_bit_of, is_of, count_of, wire_at}
use Rattle.sheet.specs.Rules.{belt_fits, names_fit, Complete, Lawful}
use Rattle.sheet.proofs.Counting.{count_cons}
use Rattle.line.specs.Words.{Node, Free, Belt, Gate, Sensor, Flop, Room, Item, Bit}

abbrev one : Bool → ℕ
one t = cond t 1 0

-- the line of a belt
record LineOf (ns : List Node) (b : ℕ) : Type 0 where
  line : ℕ
  within : line < length ns
  belt : is_belt (get_or ns line (Free Sensor)) ≡ true
  number : count_by is_belt (take line ns) ≡ b

belt_line : (ns : List Node) (b : ℕ) → b < count_by is_belt ns → LineOf ns b
belt_line [] b h = absurd (omega arith)
belt_line (n ∷ ns) b h = by (is_belt n) refl b h (belt_line ns)
  where
    later : (t : Bool) → is_belt n ≡ t → (c k : ℕ) → one t + c ≡ k → LineOf ns c → LineOf (n ∷ ns) k
    later t e c k s l =
        record {
          line = suc l.line;
          within = omega (arith, l.within);
          belt = l.belt;
          number = count_cons is_belt n (take l.line ns) ∙ ap (λ m. one m + count_by is_belt (take l.line ns)) e ∙ ap (λ m. one t + m) l.number ∙ s;
        }

    by : (t : Bool) → is_belt n ≡ t → (k : ℕ) → k < count_by is_belt (n ∷ ns) → ((c : ℕ) → c < count_by is_belt ns → LineOf ns c) → LineOf (n ∷ ns) k
    by true e zero l more = record { line = 0; within = omega arith; belt = e; number = refl }
    by true e (suc k) l more = later true e k (suc k) (omega arith) (more k (omega (arith, count_cons is_belt n ns, ap one e)))
    by false e k l more = later false e k k (omega arith) (more k (omega (arith, count_cons is_belt n ns, ap one e)))

none_count : (p : Node → Bool) (ns : List Node) → ((i : ℕ) → i < length ns → p (get_or ns i (Free Sensor)) ≡ false) → count_by p ns ≡ 0
none_count p [] h = refl
none_count p (n ∷ ns) h = omega (arith, count_cons p n ns, ap one (h 0 (omega arith)), none_count p ns (λ i l. h (suc i) (omega arith)))

named_below : (ns : List Node) (b : ℕ) (n : Node) → count_by is_belt ns ≤ b → names_fit ns n ≡ true → is_bit_of b n ≡ false
named_below ns b (Free Sensor) h e = refl
named_below ns b (Free (Flop d)) h e = refl
named_below ns b (Free (Room c)) h e = refl
named_below ns b (Free (Item c)) h e = refl
named_below ns b (Free (Bit c w)) h e =
    let lt : c < count_by is_belt ns = ltb-true c (count_by is_belt ns) (and_parts (ltb c (count_by is_belt ns)) (wire_at ns w) e).0 in
    ne_eqb c b (λ (s : c ≡ b). omega arith)
named_below ns b (Belt o t) h e = refl
named_below ns b (Gate g) h e = refl

-- the rule on the room, item and bit lines of a belt, by its number
pub belt_fits_lem : (ns : List Node) → Complete ns → (b : ℕ) → b < count_by is_belt ns → belt_fits ns b ≡ true
belt_fits_lem ns complete b h =
    let l = belt_line ns b h in
    let fits : (not (is_belt (get_or ns l.line (Free Sensor))) || belt_fits ns (count_by is_belt (take l.line ns))) ≡ true = complete l.line l.within in
    rw (l.belt, l.number) at fits

module _ (ns : List Node) (rules : Lawful ns) where
  -- any number has at most four d lines; past the last belt there is none
  pub few_bits : (b : ℕ) → count_by (is_bit_of b) ns ≤ 4
  few_bits b =
      ⊎_elim
      (λ h. leb-true _ _ (and_parts (eqb (count_by (is_item_of b) ns) 1) (leb (count_by (is_bit_of b) ns) 4) (and_parts (eqb (count_by (is_room_of b) ns) 1) _ (belt_fits_lem ns rules.complete b h)).1).1)
      (λ h. omega (arith, none_count (is_bit_of b) ns (λ i l. named_below ns b (get_or ns i (Free Sensor)) h (rules.named i l))))
      (cases_lt b (count_by is_belt ns))

flop_free : (n : Node) → cond (is_of Of.Flop n) 1 0 ≤ cond (is_free n) 1 0
flop_free (Free Sensor) = omega arith
flop_free (Free (Flop d)) = omega arith
flop_free (Free (Room c)) = omega arith
flop_free (Free (Item c)) = omega arith
flop_free (Free (Bit c w)) = omega arith
flop_free (Belt o t) = omega arith
flop_free (Gate g) = omega arith

-- flops are free wires
pub flops_free : (ns : List Node) → count_of Of.Flop ns ≤ count_by is_free ns
flops_free [] = omega arith
flops_free (n ∷ ns) = omega (arith, flop_free n, flops_free ns, count_cons (is_of Of.Flop) n ns, count_cons is_free n ns)
