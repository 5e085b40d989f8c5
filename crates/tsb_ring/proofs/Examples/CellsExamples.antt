-- What the cells of the rings say, by computing.
use Rattle.std.specs.Prelude.{◌≡◌, [], ◌∷◌, Some, None, refl}
use Rattle.tsb_ring.specs.Rings.{Ring1, Ring2}
use Rattle.tsb_ring.specs.Cells.{rings_in, rings_cells}
use Rattle.tsb_ring.proofs.Examples.Scenes.{resting, under_way}

-- on side 1, with 2 and 6 the last phases: a commitment adds nothing where there is none, and no crossing is 0
cells_at_rest : rings_cells resting ≡ 2 ∷ 6 ∷ 1 ∷ 0 ∷ []
cells_at_rest = refl

-- crossing from there to side 2, where 3 and 8 come: 2 and 32 times 3, 6 and 32 times 8
cells_under_way : rings_cells under_way ≡ 98 ∷ 262 ∷ 1 ∷ 2 ∷ []
cells_under_way = refl

-- what is written is read again, and 0 as none
read_last : (rings_in (rings_cells resting)).last Ring2 ≡ Some 6
unfolding rings_in
read_last = refl

read_commitment : (rings_in (rings_cells under_way)).commitment Ring1 ≡ Some 3
unfolding rings_in
read_commitment = refl

read_no_commitment : (rings_in (rings_cells resting)).commitment Ring1 ≡ None
unfolding rings_in
read_no_commitment = refl

read_side : (rings_in (rings_cells under_way)).side ≡ 1
unfolding rings_in
read_side = refl

read_crossing : (rings_in (rings_cells under_way)).crossing ≡ Some 2
unfolding rings_in
read_crossing = refl

read_no_crossing : (rings_in (rings_cells resting)).crossing ≡ None
unfolding rings_in
read_no_crossing = refl
