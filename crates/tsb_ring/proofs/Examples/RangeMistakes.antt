-- What the laws of cells and of what the rings look at refuse, by computing: a row with one cell more, a commitment of
-- 0 that is read as a number, and the call of a 17th phase. Beside each is what the definitions make of the same.
use Rattle.std.proofs.Common.{◌≡◌, ℕ, Bool, not, ◌&&◌, List, [], ◌∷◌, ◌++◌, slice_index, Option, Some, None, IfSome, refl, arith}
use Rattle.tsb_types.specs.Lists.{some_passes, run_from}
use Rattle.tsb_objects.specs.tsb_plan.Plan.{Plan}
use Rattle.tsb_objects.specs.tsb_plan.Quad.{quad}
use Rattle.tsb_ring.specs.declared.want.Want.TheVariants.{Cross}
use Rattle.tsb_ring.specs.Rings.{Ring, Ring1, Ring2, State, Given}
use Rattle.tsb_ring.specs.Wants.{is_on_side, is_candidate, want_within}
use Rattle.tsb_ring.specs.Moves.{moves}
use Rattle.tsb_ring.specs.Cells.{commitment_in, ring_cell, rings_in, rings_cells, IsBy}
use Rattle.tsb_ring.specs.Laws.{IsUpTo, IsInRange}
use Rattle.tsb_ring.proofs.ToldLemmas.{states-by}
use Rattle.tsb_ring.proofs.Examples.Scenes.{opened, those, still, moving, greens, resting, under_way}

-- ## Rows are read: a row with one cell more

last_fits : (r : Ring) → IfSome (under_way.last r) (IsUpTo 16)
last_fits Ring1 = (omega arith, omega arith)
last_fits Ring2 = (omega arith, omega arith)

commitment_fits : (r : Ring) → IfSome (under_way.commitment r) (IsUpTo 16)
commitment_fits Ring1 = (omega arith, omega arith)
commitment_fits Ring2 = (omega arith, omega arith)

fits : IsInRange under_way
fits = record {
  last = last_fits;
  commitment = commitment_fits;
  side = (omega arith, omega arith);
  crossing = (omega arith, omega arith);
}

can_be : IsBy (rings_cells under_way)
can_be = states-by under_way fits

is_told : rings_cells (rings_in (rings_cells under_way)) ≡ rings_cells under_way
unfolding rings_in
is_told = refl

abbrev pub longer : List ℕ
longer = rings_cells under_way ++ 7 ∷ []

would_lose_it : rings_cells (rings_in longer) ≡ rings_cells under_way
unfolding rings_in
would_lose_it = refl

-- ## States are read: a commitment of 0 that is read as a number

abbrev pub read_plainly : List ℕ → Ring → Option ℕ
read_plainly row r = Some (commitment_in (slice_index row (ring_cell r)))

reads_none : (rings_in (rings_cells resting)).commitment Ring2 ≡ None
unfolding rings_in
reads_none = refl

would_read_0 : read_plainly (rings_cells resting) Ring2 ≡ Some 0
would_read_0 = refl

-- ## Looks only at its own: a call of a 17th phase

abbrev pub called_elsewhere_of_17 : Plan → State → Given → Bool
called_elsewhere_of_17 plan s given = some_passes (λ p. given.callable p && not (is_on_side plan s.side p)) (run_from 1 17)

-- it is callable while 2 and 6 are Green and ready
abbrev pub called_17 : Given
called_17 = record greens { callable = those (17 ∷ []); ready = those (2 ∷ 6 ∷ []) }

stays_put : moves quad resting called_17 ≡ moving still still
unfolding opened
stays_put = refl

would_cross : want_within (called_17.sequence Ring1) (Some 2) (is_candidate quad resting called_17 Ring1 None)
    (called_elsewhere_of_17 quad resting called_17)
    ≡ Cross
unfolding opened
would_cross = refl
