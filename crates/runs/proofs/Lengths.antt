-- What a move does to the length of a belt's list. Assumes nothing.
use Rattle.std.proofs.Common.{◌≡◌, ℕ, ◌+◌, ◌<◌, ◌≤◌, min, Bool, true, false, List, [], ◌∷◌, ◌++◌, length, is_some, refl, ap, ◌∙◌, arith}
use Rattle.std.proofs.lemmas.List.{length_push}
use Rattle.std.proofs.lemmas.Bool.{ltb-true, lt-ltb, cond-true, false≢true}
use Rattle.sheet.specs.Wires.{bit}
use Rattle.belts.specs.Belts.{Model, cut, first, rest, counted, roomy, head_of, putting, taking}
use Rattle.line.specs.Lines.{moved}

room_means : (m : Model) → m.places ≤ 65535 → roomy m ≡ true → length m.words < m.places
room_means m p h = let lt : min (length m.words) 65535 < m.places = ltb-true _ _ h in omega arith

put_more : (w : ℕ) (m : Model) → length m.words < m.places → length (putting w m).words ≡ length m.words + 1
put_more w m h =
    let room : roomy m ≡ true = lt-ltb (counted m) m.places (omega arith) in
    ap length (cond-true (roomy m) (m.words ++ (cut m.width w ∷ [])) m.words room) ∙ length_push m.words (cut m.width w)

take_less : (ws : List ℕ) → is_some (first ws) ≡ true → length (rest ws) + 1 ≡ length ws
take_less [] h = absurd (false≢true h)
take_less (w ∷ ws) h = omega arith

pub moved_places : (enter leave : Bool) (w : ℕ) (m : Model) → (moved enter leave w m).places ≡ m.places
moved_places true true w m = refl
moved_places true false w m = refl
moved_places false true w m = refl
moved_places false false w m = refl

module _ (w : ℕ) (m : Model) (small : m.places ≤ 65535) where
  -- one word less where one leaves, and one more where one enters: room was there before the leaving
  pub moved_sum : (enter leave : Bool) → (enter ≡ true → roomy m ≡ true) → (leave ≡ true → is_some (head_of m) ≡ true) → length (moved enter leave w m).words + bit leave ≡ length m.words + bit enter
  moved_sum true true room item =
      let out = take_less m.words (item refl) in
      let lt = room_means m small (room refl) in
      omega (arith, put_more w (taking m) (omega arith))
  moved_sum true false room item = omega (arith, put_more w m (room_means m small (room refl)))
  moved_sum false true room item = omega (arith, take_less m.words (item refl))
  moved_sum false false room item = refl

  pub entered_within : (enter : Bool) → length m.words ≤ m.places → (enter ≡ true → roomy m ≡ true) → length m.words + bit enter ≤ m.places
  entered_within true within room = omega (arith, room_means m small (room refl))
  entered_within false within room = omega arith
