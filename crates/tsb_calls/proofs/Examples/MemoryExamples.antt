-- What the definitions make of memories and counts, by computing, on the built-in plan of eight phases: buttons, actuations,
-- the end of a preempt's service, and what the rings do.
use Rattle.std.specs.Prelude.{◌≡◌, ℕ, ◌∷◌, [], Bool, true, false, if◌then◌else◌, List, Option, Some, None, map, refl}
use Rattle.tsb_objects.specs.tsb_types.declared.interval.PedestrianInterval.{PedestrianInterval}
use Rattle.tsb_objects.specs.tsb_types.declared.interval.PedestrianInterval.TheVariants.{DontWalk, Walk, PedestrianClear}
use Rattle.tsb_objects.specs.tsb_types.Lists.{run_from, among}
use Rattle.tsb_objects.specs.tsb_types.Sets.{number_of_bits}
use Rattle.tsb_objects.specs.tsb_plan.declared.object.Object.TheVariants.{PhaseNonLock, VehicleDetectorCallPhase, SplitMode}
use Rattle.tsb_objects.specs.tsb_plan.Plan.{Plan, with_value}
use Rattle.tsb_objects.specs.tsb_plan.Quad.{quad}
use Rattle.tsb_calls.specs.Memories.{Memories, Given, at_power_up, has_output, actuations, has_button, vehicle_memory, pedestrian_memory, counted}
use Rattle.tsb_calls.specs.Callable.{has_pedestrian_call}
use Rattle.tsb_calls.specs.Settled.{Done, next}
use Rattle.tsb_calls.specs.Cells.{memories_in, memories_cells}
use Rattle.tsb_calls.proofs.Examples.Examples.{resting, rising, in_pattern, all_those}

-- ## Pedestrians: button 2 calls phase 2, where it is not in Walk

abbrev pub pressed : PedestrianInterval → Given
pressed part = record (resting (2 ∷ 6 ∷ [])) {
  button = λ d. among d (2 ∷ []);
  pedestrian_part = λ p. if among p (2 ∷ []) then part else DontWalk;
}

abbrev pub remembers_walk : PedestrianInterval → Bool
remembers_walk part = pedestrian_memory quad (pressed part) at_power_up 2

presses : map remembers_walk (DontWalk ∷ Walk ∷ PedestrianClear ∷ []) ≡ true ∷ false ∷ true ∷ []
unfolding quad run_from has_button pedestrian_memory
presses = refl

-- a split mode that recalls pedestrians is no call of a phase without a walk
no_walk_no_call : has_pedestrian_call (with_value quad SplitMode 3 3) (in_pattern 1 (resting [])) at_power_up 3 ≡ false
unfolding quad run_from
no_walk_no_call = refl

-- ## Counts: of all detectors of the phase, while it was not Green, up to 255

abbrev pub two_lanes : Plan
two_lanes = with_value quad VehicleDetectorCallPhase 9 3

abbrev pub counts_from : ℕ → List ℕ → ℕ
counts_from n greens = counted two_lanes (rising (3 ∷ 9 ∷ []) (resting greens)) (record at_power_up { count = λ p. n }) 3

counts : counts_from 7 (2 ∷ []) ∷ counts_from 254 (2 ∷ []) ∷ counts_from 255 (2 ∷ []) ∷ counts_from 7 (3 ∷ []) ∷ []
    ≡ 9 ∷ 255 ∷ 255 ∷ 7 ∷ []
unfolding quad run_from actuations counted
counts = refl

-- ## A preempt's service ends while 3 and 8 are Green: all others are called, phase 1 among them, which is non-locking

abbrev pub one_is_non_locking : Plan
one_is_non_locking = with_value quad PhaseNonLock 1 1

abbrev pub service_ends : Given
service_ends = record (resting (3 ∷ 8 ∷ [])) { service_ended = true }

called_back : all_those (vehicle_memory one_is_non_locking service_ends at_power_up) ≡ 1 ∷ 2 ∷ 4 ∷ 5 ∷ 6 ∷ 7 ∷ []
unfolding quad run_from has_output vehicle_memory
called_back = refl

-- ## What the rings do

-- these phases start and these end; those that end have gapped out or not; no walk begins within a green
abbrev pub moved : List ℕ → List ℕ → Bool → Done
moved starts ends gapped = record {
  starts = λ p. among p starts;
  ends = λ p. among p ends;
  gapped = λ p. gapped;
  walks = λ p. false;
  service = None;
}

-- memories and counts before phase 3 starts, or phase 2 ends
abbrev pub waiting : Memories
waiting = record { vehicle = λ p. among p (3 ∷ 4 ∷ []); pedestrian = λ p. among p (2 ∷ []); count = λ p. 6 }

starts_and_falls : all_those (next quad (resting (2 ∷ 6 ∷ [])) (moved (3 ∷ []) [] true) waiting).vehicle ≡ 4 ∷ []
unfolding quad run_from has_output vehicle_memory
starts_and_falls = refl

ends_gapped : all_those (next quad (resting (2 ∷ 6 ∷ [])) (moved [] (2 ∷ []) true) waiting).vehicle ≡ 3 ∷ 4 ∷ []
unfolding quad run_from has_output vehicle_memory
ends_gapped = refl

is_cut_short : all_those (next quad (resting (2 ∷ 6 ∷ [])) (moved [] (2 ∷ []) false) waiting).vehicle ≡ 2 ∷ 3 ∷ 4 ∷ []
unfolding quad run_from has_output vehicle_memory
is_cut_short = refl

counts_anew : map (next quad (resting (2 ∷ 6 ∷ [])) (moved [] (2 ∷ []) false) waiting).count (2 ∷ 3 ∷ []) ≡ 0 ∷ 6 ∷ []
unfolding quad run_from actuations counted
counts_anew = refl

-- pedestrian memory falls with the walk, which no phase has while a preempt is in service
abbrev pub walk_of_2 : Option ℕ → Bool
walk_of_2 service =
    (next quad (resting []) (record (moved (2 ∷ []) [] true) { service = service }) waiting).pedestrian 2

falls_with_walk : walk_of_2 None ∷ walk_of_2 (Some 1) ∷ [] ≡ false ∷ true ∷ []
unfolding quad run_from has_button pedestrian_memory
falls_with_walk = refl

-- and with a walk that begins within the green of these phases, also where its button is pressed in that tick
abbrev pub walking : List ℕ → Done
walking walks = record (moved [] [] true) { walks = λ p. among p walks }

falls_within_green : (next quad (resting (2 ∷ 6 ∷ [])) (walking (2 ∷ [])) waiting).pedestrian 2 ≡ false
unfolding quad run_from has_button pedestrian_memory
falls_within_green = refl

falls_at_once : (next quad (pressed DontWalk) (walking (2 ∷ [])) at_power_up).pedestrian 2 ≡ false
unfolding quad run_from has_button pedestrian_memory
falls_at_once = refl

-- that of another phase stays, and so do vehicle memories and counts
stays_for_another : (next quad (resting (2 ∷ 6 ∷ [])) (walking (6 ∷ [])) waiting).pedestrian 2 ≡ true
unfolding quad run_from has_button pedestrian_memory
stays_for_another = refl

vehicles_stay : all_those (next quad (resting (2 ∷ 6 ∷ [])) (walking (2 ∷ [])) waiting).vehicle ≡ 3 ∷ 4 ∷ []
unfolding quad run_from has_output vehicle_memory
vehicles_stay = refl

counts_stay : map (next quad (resting (2 ∷ 6 ∷ [])) (walking (2 ∷ [])) waiting).count (2 ∷ 3 ∷ []) ≡ 6 ∷ 6 ∷ []
unfolding quad run_from actuations counted
counts_stay = refl

-- ## Cells

row : memories_cells waiting ≡ 12 ∷ 2 ∷ 6 ∷ 6 ∷ 6 ∷ 6 ∷ 6 ∷ 6 ∷ 6 ∷ 6 ∷ 6 ∷ 6 ∷ 6 ∷ 6 ∷ 6 ∷ 6 ∷ 6 ∷ 6 ∷ []
unfolding run_from number_of_bits
row = refl

reads_back : all_those (memories_in (memories_cells waiting)).vehicle ≡ 3 ∷ 4 ∷ []
unfolding run_from number_of_bits
reads_back = refl
