-- The rows of a rack that are in use: which one has a number, when one is stored, and when all are alike. Assumes nothing.
use Rattle.std.specs.Prelude.{◌≡◌, ℕ, zero, suc, ◌<◌, ◌≤◌, List, ◌∷◌, length, map, take, replicate, slice_index_or, slice_set, refl}
use Rattle.std.proofs.Common.{ap, ◌∙◌, arith}
use Rattle.std.proofs.Math.Seq.{take-set-lt}
use Rattle.std.proofs.lemmas.List.{length-take-le, map-set, get_or-map, get_or-take, take-replicate}
use Rattle.belts.specs.Layouts.{row_of}
use Rattle.belts.specs.declared.row.PackedRow.{PackedRow}
use Rattle.banks.specs.Banks.{absent, numbered}
use Rattle.banks.specs.Racks.{rack_of}
use Rattle.banks.specs.declared.rack.Rack.{Rack}

pub row_at : (k : Rack) (i : ℕ) (d : PackedRow) → i < k.size → numbered (rack_of k) i ≡ row_of (slice_index_or k.rows i d)
row_at k i d lt =
    let n : i < length (take k.size k.rows) = rw (length-take-le k.size k.rows (omega arith)) lt in
    get_or-map row_of (take k.size k.rows) i d absent n ∙ ap row_of (get_or-take k.size k.rows i d lt)

pub row_set : (rows : List PackedRow) (n i : ℕ) (row : PackedRow) → i < n → map row_of (take n (slice_set rows i row)) ≡ slice_set (map row_of (take n rows)) i (row_of row)
row_set rows n i row lt = ap (map row_of) (take-set-lt n rows i row lt) ∙ map-set row_of (take n rows) i row

map_replicate : (n : ℕ) (r : PackedRow) → map row_of (replicate n r) ≡ replicate n (row_of r)
map_replicate zero r = refl
map_replicate (suc n) r = ap (λ ms. row_of r ∷ ms) (map_replicate n r)

pub rows_alike : (n : ℕ) (r : PackedRow) → n ≤ 32 → map row_of (take n (replicate 32 r)) ≡ replicate n (row_of r)
rows_alike n r le = ap (map row_of) (take-replicate n 32 r le) ∙ map_replicate n r
