-- What the table of cells gives, by computing: places of objects, and desks that are written and read again.
use Rattle.std.specs.Prelude.{◌≡◌, [], ◌∷◌, length, take, drop, refl}
use Rattle.tsb_objects.specs.tsb_types.Lists.{run_from}
use Rattle.tsb_plan.specs.declared.object.Object.TheVariants.{PhaseEnabled, PhaseNonLock, UnitMax2, SplitTime, ChannelControlType}
use Rattle.tsb_plan.specs.declared.object.TheConstants.{PLAN_CELLS}
use Rattle.tsb_plan.specs.Objects.{objects, first_cell}
use Rattle.tsb_transact.specs.Desk.{closed}
use Rattle.tsb_transact.specs.Cells.{desk_in, desk_cells, edit_cells, place_of, id_at}
use Rattle.tsb_transact.proofs.Examples.Examples.{at, broken, full}

-- ## Places among the values of a plan

first_place : place_of (at PhaseEnabled 1) ≡ 1
unfolding first_cell objects
first_place = refl

second_object : place_of (at PhaseNonLock 1) ≡ 17
unfolding first_cell objects
second_object = refl

last_place : place_of (at ChannelControlType 16) ≡ PLAN_CELLS
unfolding first_cell objects
last_place = refl

reads_first : id_at 1 ≡ at PhaseEnabled 1
unfolding objects
reads_first = refl

reads_next_object : id_at 17 ≡ at PhaseNonLock 1
unfolding objects
reads_next_object = refl

reads_a_unit_object : id_at (place_of (at UnitMax2 1)) ≡ at UnitMax2 1
unfolding first_cell objects
reads_a_unit_object = refl

reads_last : id_at PLAN_CELLS ≡ at ChannelControlType 16
unfolding objects
reads_last = refl

-- ## Desks

at_power_up : desk_cells closed ≡ 0 ∷ 0 ∷ 0 ∷ 0 ∷ edit_cells 64 []
at_power_up = refl

reads_closed : desk_in (desk_cells closed) ≡ closed
unfolding desk_in run_from
reads_closed = refl

-- phaseMaximum1 of phase 2 is at place 258, and phaseConcurrency of phase 1 at place 193
writes_broken : take 10 (desk_cells broken) ≡ 1 ∷ 2 ∷ 5 ∷ 2 ∷ 258 ∷ 40 ∷ 193 ∷ 32 ∷ 0 ∷ 0 ∷ []
unfolding first_cell objects
writes_broken = refl

reads_broken : desk_in (desk_cells broken) ≡ broken
unfolding desk_in first_cell objects run_from
reads_broken = refl

reads_full : desk_in (desk_cells full) ≡ full
unfolding desk_in first_cell objects run_from
reads_full = refl

is_long : length (desk_cells full) ≡ 132
unfolding run_from
is_long = refl

-- the last edit is in the last two cells: splitTime of phase 16 in table 4
last_edit : drop 130 (desk_cells full) ≡ place_of (at SplitTime 64) ∷ 1 ∷ []
unfolding run_from
last_edit = refl
