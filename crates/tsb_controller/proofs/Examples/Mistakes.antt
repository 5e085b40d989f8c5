-- What the laws of rows, of records and of ticks that pass refuse, by computing: timers read by the tick number in a
-- controller that has tripped, records that number, list or hold other than they should, a bound on how long timers
-- run, and a monitor that looks at some ticks only. Beside each is what the definitions make of the same.
use Rattle.std.specs.Prelude.{◌≡◌, ℕ, ◌+◌, ◌-◌, nat_le, Bool, true, false, if◌then◌else◌, List, [], ◌∷◌, ◌++◌, length, slice_get, slice_index, Option, Some, None, refl}
use Rattle.tsb_step.specs.tsb_types.declared.lamp.Lamp.TheVariants as lamps
use Rattle.tsb_step.specs.tsb_types.declared.lamp.SignalColor.TheVariants as signals
use Rattle.tsb_step.specs.tsb_types.Lists.{run_from}
use Rattle.tsb_step.specs.tsb_types.Sets.{number_of_bits}
use Rattle.tsb_step.specs.tsb_plan.Plan.{Plan, empty}
use Rattle.tsb_step.specs.tsb_plan.Quad.{quad}
use Rattle.tsb_cells.specs.Diff.{diff, apply_diff, part, shifted}
use Rattle.tsb_heads.specs.declared.monitor.Trip.{Trip}
use Rattle.tsb_heads.specs.declared.monitor.Trip.TheVariants.{Conflict}
use Rattle.tsb_heads.specs.Displays.{field}
use Rattle.tsb_heads.specs.Heads.{Heads}
use Rattle.tsb_heads.specs.Monitoring.{conflict_of, conflict, green_to_red, has_green_arrow, judge}
use Rattle.tsb_heads.proofs.Examples.Examples.{through}
use Rattle.tsb_preempt.specs.Cells.{preempts_in, preempts_cells, service_in}
use Rattle.tsb_transact.specs.Desk.{closed}
use Rattle.tsb_step.specs.declared.first_cell.TheConstants.{DESK, DETECTORS, CALLS, PHASES, RINGS, COORD, PREEMPTS, OVERLAPS}
use Rattle.tsb_step.specs.Cells.{clock}
use Rattle.tsb_step.specs.State.{State}
use Rattle.tsb_controller.specs.Passing.{ends_before_phases, is_before_phases}
use Rattle.tsb_controller.specs.Records.{changes}
use Rattle.tsb_controller.specs.Rows.{Rows, Beside, state_of}
use Rattle.tsb_controller.specs.Whole.{All, all_changes, all_put_back}
use Rattle.tsb_controller.proofs.Examples.Examples.{occupied, on_side}

-- ## Rows are read: timers read by the tick number in a controller that has tripped

-- tripped at tick 40, while preempt 2 dwelt since tick 19
abbrev pub tripped : Beside
tripped = record { plan = empty; desk = closed; lamp = None; trip = Some (record { cause = Conflict 2 3; tick = 40 }) }

abbrev pub dwelling : Rows
dwelling = record (on_side 1) { preempts = 0 ∷ 0 ∷ 0 ∷ 0 ∷ 0 ∷ 0 ∷ 2 ∷ 1 ∷ 20 ∷ 0 ∷ [] }

abbrev pub state_by_tick : ℕ → Beside → Rows → State
state_by_tick now b r = record (state_of now b r) { preempts = preempts_in now r.preempts }

-- cell 8 is the service timer's
abbrev pub told_in_8 : State → ℕ
told_in_8 s = slice_index (preempts_cells (clock s) s.preempts) 8

tells_20 : told_in_8 (state_of 50 tripped dwelling) ≡ 20
unfolding preempts_in service_in number_of_bits run_from
tells_20 = refl

would_tell_10 : told_in_8 (state_by_tick 50 tripped dwelling) ≡ 10
unfolding preempts_in service_in number_of_bits run_from
would_tell_10 = refl

-- ## Records: a few cells of each row; the switch of preempt 2 is off, and then on

abbrev pub few : List ℕ → Rows
few preempts = record {
  detectors = 0 ∷ [];
  calls = 0 ∷ [];
  phases = 0 ∷ [];
  rings = 5 ∷ 2 ∷ [];
  pattern = 0 ∷ [];
  preempts = preempts;
  overlaps = 0 ∷ [];
}

abbrev pub few_of_all : List ℕ → All
few_of_all preempts = record { plan = 1 ∷ 1 ∷ []; desk = 0 ∷ []; layers = few preempts; monitor = 0 ∷ [] }

abbrev pub off : All
off = few_of_all (0 ∷ 0 ∷ [])

abbrev pub on : All
on = few_of_all (2 ∷ 0 ∷ [])

-- joined: the cells of each row are numbered from 0
abbrev pub unnumbered : Rows → Rows → List (ℕ × ℕ)
unnumbered old new =
    diff old.detectors new.detectors ++ (diff old.calls new.calls ++ (diff old.phases new.phases ++
    (diff old.rings new.rings ++ (diff old.pattern new.pattern ++ (diff old.preempts new.preempts ++ diff old.overlaps new.overlaps)))))

names_its_cell : all_changes off on ≡ (PREEMPTS, 0) ∷ []
names_its_cell = refl

would_name_0 : unnumbered off.layers on.layers ≡ (0, 0) ∷ []
would_name_0 = refl

-- going back: each row is given the whole record, in the numbers of the bench
abbrev pub put_back_whole : Rows → List (ℕ × ℕ) → Rows
put_back_whole r es = record {
  detectors = apply_diff r.detectors es;
  calls = apply_diff r.calls es;
  phases = apply_diff r.phases es;
  rings = apply_diff r.rings es;
  pattern = apply_diff r.pattern es;
  preempts = apply_diff r.preempts es;
  overlaps = apply_diff r.overlaps es;
}

goes_off : (all_put_back on ((PREEMPTS, 0) ∷ [])).layers.preempts ≡ 0 ∷ 0 ∷ []
goes_off = refl

would_stay_on : (put_back_whole on.layers ((PREEMPTS, 0) ∷ [])).preempts ≡ 2 ∷ 0 ∷ []
would_stay_on = refl

-- giving back: a record with what cells hold after the input
abbrev pub changes_after : All → All → List (ℕ × ℕ)
changes_after old new = all_changes new old

gives_back : all_put_back on (all_changes off on) ≡ off
gives_back = refl

would_stay : all_put_back on (changes_after off on) ≡ on
would_stay = refl

-- leaving the phases: a record is judged by its first entry, while detector 1 is occupied and the rings cross
abbrev pub begins_before_phases : List (ℕ × ℕ) → Bool
begins_before_phases es = is_before_phases (slice_get es 0)

crosses : changes (on_side 1) (occupied 2) ≡ (DETECTORS, 0) ∷ (RINGS + 2, 1) ∷ []
unfolding run_from number_of_bits
crosses = refl

ends_late : ends_before_phases (changes (on_side 1) (occupied 2)) ≡ false
unfolding run_from number_of_bits
ends_late = refl

would_begin_early : begins_before_phases (changes (on_side 1) (occupied 2)) ≡ true
unfolding run_from number_of_bits
would_begin_early = refl

-- few: a record that has each entry twice
abbrev pub told_twice : All → All → List (ℕ × ℕ)
told_twice old new = all_changes old new ++ all_changes old new

has_one : length (part PREEMPTS 1 (all_changes off on)) ≡ 1
has_one = refl

would_have_two : length (part PREEMPTS 1 (told_twice off on)) ≡ 2
would_have_two = refl

-- of the rows that changed: a record that has each cell, whether it differs or not
abbrev pub each_from : ℕ → List ℕ → List (ℕ × ℕ)
each_from i [] = []
each_from i (x ∷ cells) = (i, x) ∷ each_from (i + 1) cells

has_none : all_changes on on ≡ []
has_none = refl

abbrev pub begun : All
begun = record off { desk = 1 ∷ [] }

names_the_desk : all_changes off begun ≡ (DESK, 0) ∷ []
names_the_desk = refl

would_have_each : each_from 0 on.plan ≡ (0, 1) ∷ (1, 1) ∷ []
would_have_each = refl

-- unchanged rows: a record without the cells of the preempts
abbrev pub changes_without : Rows → Rows → List (ℕ × ℕ)
changes_without old new =
    shifted DETECTORS (diff old.detectors new.detectors) ++ (shifted CALLS (diff old.calls new.calls) ++
    (shifted PHASES (diff old.phases new.phases) ++ (shifted RINGS (diff old.rings new.rings) ++ (shifted COORD (diff old.pattern new.pattern) ++
    shifted OVERLAPS (diff old.overlaps new.overlaps)))))

has_a_change : changes off.layers on.layers ≡ (PREEMPTS, 0) ∷ []
has_a_change = refl

would_have_none : changes_without off.layers on.layers ≡ []
would_have_none = refl

-- ## Rows stay by: a bound on how long the change timer of detector 1 has run

abbrev pub is_recent : ℕ → List ℕ → Bool
is_recent now row = nat_le (now + 1 - slice_index row 76) 600

is_recent_yet : is_recent 649 (on_side 1).detectors ≡ true
unfolding run_from number_of_bits
is_recent_yet = refl

would_not_stay : is_recent 650 (on_side 1).detectors ≡ false
unfolding run_from number_of_bits
would_not_stay = refl

-- ## Watched ticks pass: a monitor that looks from tick 10 on

abbrev pub judge_from_10 : ℕ → Plan → Heads → Heads → Option Trip
judge_from_10 now plan before after = if nat_le 10 now then judge plan before after else None

-- phases 2 and 6 are Green, and no lamp is lit, or a green one of phase 3
abbrev pub unlit : Heads
unlit = field quad through None

abbrev pub lit : Heads
lit = field quad through (Some (lamps.Phase 3 signals.Green))

finds_none : judge quad unlit unlit ≡ None
unfolding quad run_from conflict conflict_of green_to_red has_green_arrow
finds_none = refl

would_find_none_at_9 : judge_from_10 9 quad lit lit ≡ None
would_find_none_at_9 = refl

would_find_it_at_10 : judge_from_10 10 quad lit lit ≡ Some (Conflict 2 3)
unfolding quad run_from conflict conflict_of green_to_red has_green_arrow
would_find_it_at_10 = refl
