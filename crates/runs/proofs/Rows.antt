-- A tick is a row of free wire values in which the room and item lines tell room and item. Assumes nothing.
use Rattle.std.proofs.Common.{◌≡◌, ℕ, ◌+◌, ◌<◌, Bool, true, false, not, ◌&&◌, eqb, leb, List, [], ◌∷◌, ◌++◌, length, get_or, is_some, count_by, sym, refl, ap, ◌∙◌, ⊎_elim, zero-add, arith}
use Rattle.std.proofs.lemmas.List.{append_assoc, length-append, length_push, get_or_at, get_or_append_left}
use Rattle.std.proofs.lemmas.Bool.{cases_Bool, cond-true, cond-false, eqb-true, and_parts, false≢true}
use Rattle.sheet.specs.declared.node.Node.{Node}
use Rattle.sheet.specs.declared.node.Node.TheVariants.{Free, Belt, Gate}
use Rattle.sheet.specs.declared.node.Source.TheVariants.{Sensor, Flop, Room, Item, Bit}
use Rattle.sheet.specs.Nodes.{is_belt, is_free, is_room_of, is_item_of, is_bit_of, belts_of}
use Rattle.sheet.specs.Rules.{Complete}
use Rattle.sheet.specs.Wires.{bit, node_value, settled_from, settled, value_where, row_enters, row_leaves}
use Rattle.belts.specs.Belts.{Model, roomy, head_of}
use Rattle.banks.specs.Banks.{numbered}
use Rattle.std.specs.List.{position_or_len}
use Rattle.flows.proofs.Flowing.{length_settled, value_at}
use Rattle.sheet.proofs.Counting.{count_cons}
use Rattle.line.specs.Parts.{ordinal}
use Rattle.line.specs.Lines.{State, free_value, row_from, row_now, wires_now, enters_now, leaves_now}
use Rattle.line.proofs.Rules.{belt_fits_lem}

-- a belt of a complete sheet has one room line and one item line
record Parts (ns : List Node) (b : ℕ) : Type 0 where
  room : count_by (is_room_of b) ns ≡ 1
  item : count_by (is_item_of b) ns ≡ 1

parts : (ns : List Node) → Complete ns → (b : ℕ) → b < count_by is_belt ns → Parts ns b
parts ns whole b h =
    let two = and_parts (eqb (count_by (is_room_of b) ns) 1) (eqb (count_by (is_item_of b) ns) 1 && leb (count_by (is_bit_of b) ns) 4) (belt_fits_lem ns whole b h) in
    record { room = eqb-true _ 1 two.0; item = eqb-true _ 1 (and_parts (eqb (count_by (is_item_of b) ns) 1) _ two.1).0 }

-- ---- the wire of the first line that passes a test

front_kept : (row : List Bool) (k : ℕ) (ws : List Bool) (ns : List Node) (i : ℕ) → i < length ws → get_or (settled_from row k ws ns) i false ≡ get_or ws i false
front_kept row k ws [] i h = refl
front_kept row k ws (n ∷ ns) i h =
    front_kept row (k + bit (is_free n)) (ws ++ node_value row k ws n ∷ []) ns i (omega (arith, length_push ws (node_value row k ws n)))
    ∙ get_or_append_left ws (node_value row k ws n ∷ []) false i h

module _ (bank : List Model) (flops : List Bool) (sensors : List ℕ) where
  -- the value that one line adds to the row
  abbrev own : List Node → Node → List Bool
  own before (Free w) = free_value bank flops sensors (ordinal before w) w ∷ []
  own before (Belt o t) = []
  own before (Gate g) = []

  row_splits : (before : List Node) (n : Node) (ns : List Node) → row_from bank flops sensors before (n ∷ ns) ≡ own before n ++ row_from bank flops sensors (before ++ n ∷ []) ns
  row_splits before (Free w) ns = refl
  row_splits before (Belt o t) ns = refl
  row_splits before (Gate g) ns = refl

  own_length : (before : List Node) (n : Node) → length (own before n) ≡ bit (is_free n)
  own_length before (Free w) = refl
  own_length before (Belt o t) = refl
  own_length before (Gate g) = refl

  -- a line that passes the test p is a free wire of value v
  record Named (p : Node → Bool) (v : Bool) : Type 0 where
    value : (before : List Node) (n : Node) → p n ≡ true → own before n ≡ v ∷ []
    free : (n : Node) → p n ≡ true → (row : List Bool) (k : ℕ) (ws : List Bool) → node_value row k ws n ≡ get_or row k false

  module _ {p : Node → Bool} {v : Bool} (N : Named p v) where
    found_from : (before ns : List Node) (row pre : List Bool) (k : ℕ) (ws : List Bool) → row ≡ pre ++ row_from bank flops sensors before ns → k ≡ length pre → 0 < count_by p ns
        → get_or (settled_from row k ws ns) (length ws + position_or_len p ns) false ≡ v
    found_from before [] row pre k ws e l some = absurd (omega arith)
    found_from before (n ∷ ns) row pre k ws e l some =
        let x : Bool = node_value row k ws n in
        let rest : List Bool = row_from bank flops sensors (before ++ n ∷ []) ns in
        let more : ℕ = k + bit (is_free n) in
        let us : List Bool = ws ++ x ∷ [] in
        let split : row ≡ pre ++ (own before n ++ rest) = e ∙ ap (λ z. pre ++ z) (row_splits before n ns) in
        ⊎_elim
        (λ (yes : p n ≡ true).
        let at : length ws + position_or_len p (n ∷ ns) ≡ length ws = omega (arith, cond-false {A = ℕ} (not (p n)) (1 + position_or_len p ns) 0 (ap not yes)) in
        ap (λ i. get_or (settled_from row more us ns) i false) at
        ∙ front_kept row more us ns (length ws) (omega (arith, length_push ws x))
        ∙ get_or_at ws x [] false (length ws) refl
        ∙ N.free n yes row k ws
        ∙ ap (λ z. get_or z k false) (split ∙ ap (λ z. pre ++ (z ++ rest)) (N.value before n yes))
        ∙ get_or_at pre v rest false k (sym l))
        (λ (no : p n ≡ false).
        let at : length ws + position_or_len p (n ∷ ns) ≡ length us + position_or_len p ns = omega (arith, cond-true {A = ℕ} (not (p n)) (1 + position_or_len p ns) 0 (ap not no), length_push ws x) in
        ap (λ i. get_or (settled_from row more us ns) i false) at
        ∙ found_from (before ++ n ∷ []) ns row (pre ++ own before n) more us
        (split ∙ sym (append_assoc pre (own before n) rest))
        (omega (arith, length-append pre (own before n), own_length before n))
        (omega (arith, count_cons p n ns, cond-false {A = ℕ} (p n) 1 0 no)))
        (cases_Bool (p n))

    found : (ns : List Node) → count_by p ns ≡ 1 → value_where p ns (settled ns (row_from bank flops sensors [] ns)) ≡ v
    found ns one =
        let row = row_from bank flops sensors [] ns in
        value_at p ns (settled ns row) (length_settled ns row)
        ∙ ap (λ i. get_or (settled ns row) i false) (sym (zero-add (position_or_len p ns)))
        ∙ found_from [] ns row [] 0 [] refl refl (omega arith)

  room_named : (b : ℕ) → Named (is_room_of b) (roomy (numbered bank b))
  room_named b = record { value = value; free = free }
    where
      value : (before : List Node) (n : Node) → is_room_of b n ≡ true → own before n ≡ roomy (numbered bank b) ∷ []
      value before (Free Sensor) e = absurd (false≢true e)
      value before (Free (Flop d)) e = absurd (false≢true e)
      value before (Free (Room c)) e = ap (λ z. roomy (numbered bank z) ∷ []) (eqb-true c b e)
      value before (Free (Item c)) e = absurd (false≢true e)
      value before (Free (Bit c d)) e = absurd (false≢true e)
      value before (Belt o t) e = absurd (false≢true e)
      value before (Gate g) e = absurd (false≢true e)

      free : (n : Node) → is_room_of b n ≡ true → (row : List Bool) (k : ℕ) (ws : List Bool) → node_value row k ws n ≡ get_or row k false
      free (Free w) e row k ws = refl
      free (Belt o t) e row k ws = absurd (false≢true e)
      free (Gate g) e row k ws = absurd (false≢true e)

  item_named : (b : ℕ) → Named (is_item_of b) (is_some (head_of (numbered bank b)))
  item_named b = record { value = value; free = free }
    where
      value : (before : List Node) (n : Node) → is_item_of b n ≡ true → own before n ≡ is_some (head_of (numbered bank b)) ∷ []
      value before (Free Sensor) e = absurd (false≢true e)
      value before (Free (Flop d)) e = absurd (false≢true e)
      value before (Free (Room c)) e = absurd (false≢true e)
      value before (Free (Item c)) e = ap (λ z. is_some (head_of (numbered bank z)) ∷ []) (eqb-true c b e)
      value before (Free (Bit c d)) e = absurd (false≢true e)
      value before (Belt o t) e = absurd (false≢true e)
      value before (Gate g) e = absurd (false≢true e)

      free : (n : Node) → is_item_of b n ≡ true → (row : List Bool) (k : ℕ) (ws : List Bool) → node_value row k ws n ≡ get_or row k false
      free (Free w) e row k ws = refl
      free (Belt o t) e row k ws = absurd (false≢true e)
      free (Gate g) e row k ws = absurd (false≢true e)

-- ---- a tick's events are those of its row

module _ (s : State) (sensors : List ℕ) (whole : Complete s.sheet) (b : ℕ) (h : b < count_by is_belt s.sheet) where
  pub enters_as_row : row_enters s.sheet (row_now s sensors) b ≡ enters_now s sensors b
  enters_as_row =
      ap (λ z. get_or (wires_now s sensors) (get_or (belts_of s.sheet) b (0, 0)).0 false && z)
      (found s.bank s.flops sensors (room_named s.bank s.flops sensors b) s.sheet (parts s.sheet whole b h).room)

  pub leaves_as_row : row_leaves s.sheet (row_now s sensors) b ≡ leaves_now s sensors b
  leaves_as_row =
      ap (λ z. get_or (wires_now s sensors) (get_or (belts_of s.sheet) b (0, 0)).1 false && z)
      (found s.bank s.flops sensors (item_named s.bank s.flops sensors b) s.sheet (parts s.sheet whole b h).item)
