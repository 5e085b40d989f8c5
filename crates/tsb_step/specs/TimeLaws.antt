-- Laws of whole runs, on times, starts, commitments, sides and the field. Each is proved as the contract of a function
-- in src/time_laws.rt, except CellsTellTheState and PastsAreTheRun. These two are proved in tsb_laws, for plans that
-- the program holds: no value is over the greatest of its object.
use Rattle.std.specs.Prelude.{◌≡◌, ◌≢◌, ℕ, suc, ◌+◌, ◌≤◌, Bool, true, false, not, ◌&&◌, ◌||◌, if◌then◌else◌, List, [], ◌∷◌, Some, None, Contains, ◌⊎◌}
use Rattle.tsb_cells.specs.Timer.{has_reached}
use Rattle.tsb_cells.specs.declared.timer.Timer.TheVariants.{Off, On}
use Rattle.tsb_types.specs.Intervals.{is_green, is_yellow, is_red_clear, in_service, is_walk, is_clearance}
use Rattle.tsb_types.specs.declared.interval.PedestrianInterval.TheVariants.{DontWalk, Walk, PedestrianClear}
use Rattle.tsb_types.specs.declared.interval.Interval.{Interval}
use Rattle.tsb_types.specs.declared.interval.Interval.TheVariants.{Red, Green, Yellow, RedClear}
use Rattle.tsb_types.specs.declared.lamp.Aspect.{Aspect}
use Rattle.tsb_types.specs.declared.lamp.Aspect.TheVariants as aspects
use Rattle.tsb_types.specs.declared.row.Row.{Row}
use Rattle.tsb_objects.specs.tsb_plan.Plan.{Plan, yellow_change, red_clear, red_revert, side_of}
use Rattle.tsb_objects.specs.tsb_plan.Parts.{is_anew, is_minus_green_yellow, is_timed}
use Rattle.tsb_phase.specs.Pedestrian.{ended_by, walk_time, clearance_time}
use Rattle.tsb_phase.specs.Laws.{least_green}
use Rattle.tsb_phase.specs.Phase.{Phase}
use Rattle.tsb_ring.specs.Rings as rings
use Rattle.tsb_ring.specs.Rings.{Ring}
use Rattle.tsb_heads.specs.Monitoring.{conflict}
use Rattle.tsb_heads.specs.Overlaps.{IsOverlap, is_kept_green, overlap_head}
use Rattle.tsb_ring.specs.Moves.{is_started}
use Rattle.tsb_step.specs.declared.inputs.Input.{Input}
use Rattle.tsb_step.specs.declared.inputs.Input.TheVariants.{Tick, Reset}
use Rattle.tsb_machine.specs.declared.commands.Answer.{Answer}
use Rattle.tsb_step.specs.State.{State, interval, pedestrian_part}
use Rattle.tsb_step.specs.Tick.{service, must_end, phases_given, phase_read, moves, after_moves, next}
use Rattle.tsb_step.specs.Signs.{shown, display, is_choosing, is_lasting, field}
use Rattle.tsb_step.specs.Step.{step, kind_of}
use Rattle.tsb_step.specs.Runs.{replay, AreTaken}
use Rattle.tsb_step.specs.Past.{ticks_of, pasts}
use Rattle.tsb_step.specs.Play.{Cmd, run, records_of, remaining, AreRight}
use Rattle.tsb_step.specs.Cells.{cells_of, state_in}
use Rattle.tsb_step.specs.Laws.{IsConsistent, IsWide, OfEveryRun}

-- for how many ticks a test has held: how many of the newest ticks it held both before and after
abbrev pub held_for : (State → Bool) → Plan → List Input → ℕ
held_for test plan [] = 0
held_for test plan (i ∷ is) =
    if test (replay plan (i ∷ is)) && test (replay plan is) then ticks_of (kind_of i) + held_for test plan is else 0

-- what is said of every run and its newest state, of a controller that has not tripped
abbrev pub OfEveryUntrippedRun : (Plan → List Input → Type 0) → Type 0
OfEveryUntrippedRun fact = (plan : Plan) (is : List Input) → IsConsistent plan → AreTaken plan is → (replay plan is).trip ≡ None → fact plan is

-- the timer of an interval counts the ticks for which it has held, and so with a pedestrian part; that of red revert,
-- where it is On, counts those for which the phase has been neither Green nor Yellow
pub record TellsTime (plan : Plan) (is : List Input) (p : ℕ) : Type 0 where
  pub green : interval (replay plan is) p ≡ Green → ((replay plan is).phases p).timer ≡ On (held_for (λ s. is_green (interval s p)) plan is)
  pub yellow : interval (replay plan is) p ≡ Yellow → ((replay plan is).phases p).timer ≡ On (held_for (λ s. is_yellow (interval s p)) plan is)
  pub red_clear : interval (replay plan is) p ≡ RedClear → ((replay plan is).phases p).timer ≡ On (held_for (λ s. is_red_clear (interval s p)) plan is)
  pub walk : pedestrian_part (replay plan is) p ≡ Walk → ((replay plan is).phases p).pedestrian_timer ≡ On (held_for (λ s. is_walk (pedestrian_part s p)) plan is)
  pub clearance : pedestrian_part (replay plan is) p ≡ PedestrianClear →
      ((replay plan is).phases p).pedestrian_timer ≡ On (held_for (λ s. is_clearance (pedestrian_part s p)) plan is)
  pub red_revert : (n : ℕ) → ((replay plan is).phases p).red_revert ≡ On n →
      n ≡ held_for (λ s. not (is_green (interval s p) || is_yellow (interval s p))) plan is

-- this holds for each phase after every run of a controller that has not tripped
abbrev pub TimersTellTime : Type 0
TimersTellTime = OfEveryUntrippedRun (λ plan is. (p : ℕ) → TellsTime plan is p)

-- a tick ends a walk, a pedestrian clearance, a green, a yellow or a red clearance only when its timer has reached its
-- time, and makes Green only what the rings start
pub record EndsInTime (s : State) (row : Row) (p : ℕ) : Type 0 where
  pub walk : pedestrian_part s p ≡ Walk → pedestrian_part (step s (Tick row)) p ≢ Walk →
      has_reached (phase_read s p).pedestrian_timer (walk_time s.plan p (ended_by (phases_given s row) p)) ≡ true
  pub then_clears : pedestrian_part s p ≡ Walk → pedestrian_part (step s (Tick row)) p ≡ DontWalk →
      clearance_time s.plan p (ended_by (phases_given s row) p) ≡ 0
  pub clearance : pedestrian_part s p ≡ PedestrianClear → pedestrian_part (step s (Tick row)) p ≢ PedestrianClear →
      (pedestrian_part (step s (Tick row)) p ≡ DontWalk) ×
      (has_reached (phase_read s p).pedestrian_timer (clearance_time s.plan p (ended_by (phases_given s row) p)) ≡ true)
  pub green : interval s p ≡ Green → interval (step s (Tick row)) p ≢ Green →
      (interval (step s (Tick row)) p ≡ Yellow) × (pedestrian_part (step s (Tick row)) p ≡ DontWalk) ×
      (has_reached (phase_read s p).timer (least_green s.plan p (ended_by (phases_given s row) p)) ≡ true)
  pub yellow : interval s p ≡ Yellow → interval (step s (Tick row)) p ≢ Yellow → has_reached (phase_read s p).timer (yellow_change s.plan p) ≡ true
  pub red_clear : interval s p ≡ RedClear → interval (step s (Tick row)) p ≢ RedClear → has_reached (phase_read s p).timer (red_clear s.plan p) ≡ true
  pub starts : interval s p ≢ Green → interval (step s (Tick row)) p ≡ Green → is_started (moves s row) p ≡ true

-- this holds for each phase in each tick after every run
abbrev pub TicksEndInTime : Type 0
TicksEndInTime = OfEveryRun (λ s. (row : Row) (p : ℕ) → EndsInTime s row p)

-- a tick, whatever inputs are on in it
abbrev pub is_tick : Input → Bool
is_tick (Tick row) = true
is_tick i = false

-- a reset, which starts a controller that has tripped anew
abbrev pub is_reset : Input → Bool
is_reset Reset = true
is_reset i = false

-- no input but a tick and a reset changes an interval, a part or a timer; what others may change is a forced latch
abbrev pub OthersLeavePhases : Type 0
OthersLeavePhases = (s : State) (i : Input) (p : ℕ) → is_tick i ≡ false → is_reset i ≡ false →
    (step s i).phases p ≡ record (s.phases p) { forced = ((step s i).phases p).forced }

-- steady yellow on the head of a phase or an overlap
abbrev pub is_yellow_head : Aspect → Bool
is_yellow_head aspects.Yellow = true
is_yellow_head a = false

-- while the controller has not tripped: the head of a phase that a tick turns red has shown yellow for the last 30
-- ticks, this one included
abbrev pub PhasesClearInYellow : Type 0
PhasesClearInYellow = OfEveryUntrippedRun (λ plan is. (row : Row) (p : ℕ) → (display (replay plan is)).vehicle p ≢ aspects.Red →
    (display (replay plan (Tick row ∷ is))).vehicle p ≡ aspects.Red → 29 ≤ held_for (λ s. is_yellow_head ((display s).vehicle p)) plan is)

-- so has the head of an overlap that is not of type minusGreenYellow
abbrev pub OverlapsClearInYellow : Type 0
OverlapsClearInYellow = OfEveryUntrippedRun (λ plan is. (row : Row) (o : ℕ) → is_minus_green_yellow (replay plan is).plan o ≡ false →
    (display (replay plan is)).overlap o ≢ aspects.Red →
    (display (replay plan (Tick row ∷ is))).overlap o ≡ aspects.Red → 29 ≤ held_for (λ s. is_yellow_head ((display s).overlap o)) plan is)

-- a phase that starts has been neither Green nor Yellow for its red revert time, this tick included, unless its red
-- revert timer is Off
abbrev pub StartsAfterRedRevert : Type 0
StartsAfterRedRevert = OfEveryUntrippedRun (λ plan is. (row : Row) (p : ℕ) → is_started (moves (replay plan is) row) p ≡ true →
    (((replay plan is).phases p).red_revert ≡ Off)
    ⊎ (red_revert (replay plan is).plan p ≤ suc (held_for (λ s. not (is_green (interval s p) || is_yellow (interval s p))) plan is)))

-- the ring keeps its commitment over the input, or its phase turns Green
abbrev pub StandsOrStarts : State → Input → Ring → ℕ → Type 0
StandsOrStarts s i r c = ((step s i).rings.commitment r ≡ Some c) ⊎ ((interval s c ≢ Green) × (interval (step s i) c ≡ Green))

-- while the controller has not tripped, a ring keeps its commitment over inputs of every kind until its phase turns
-- Green; a preempt that chooses anew and is in service after the input may take it
abbrev pub CommitmentsStandInRuns : Type 0
CommitmentsStandInRuns = OfEveryRun (λ s. (i : Input) (r : Ring) (c : ℕ) → s.trip ≡ None → is_choosing (step s i) ≡ false →
    s.rings.commitment r ≡ Some c → StandsOrStarts s i r c)

-- while the controller has not tripped. A preempt in service that chooses anew wants the phase of each commitment after
-- the tick, unless an overlap lasts through a clearance by a commitment
abbrev pub CommitmentsAreWanted : Type 0
CommitmentsAreWanted = OfEveryRun (λ s. (row : Row) (r : Ring) (c : ℕ) → s.trip ≡ None → is_anew s.plan (service s row) ≡ true →
    (step s (Tick row)).rings.commitment r ≡ Some c → (must_end s row c ≡ false) ⊎ (is_lasting (step s (Tick row)) ≡ true))

-- what is given up in a tick changes no phase, and no head of it; nor does it change that of an overlap which goes by its
-- phases, nor what keeps one green that trails. An arrow may flash once the rings have given up its turn
pub record ShowsTheSame (s t : State) : Type 0 where
  pub phases : t.phases ≡ s.phases
  pub overlap : (o : ℕ) → IsOverlap s.plan o → is_timed s.plan o ≡ false → overlap_head t.plan (shown t) o ≡ overlap_head s.plan (shown s) o
  pub kept : (o : ℕ) → IsOverlap s.plan o → is_kept_green t.plan (shown t) o ≡ is_kept_green s.plan (shown s) o

-- each tick of every run does
abbrev pub GivingUpShowsNothing : Type 0
GivingUpShowsNothing = OfEveryRun (λ s. (row : Row) → ShowsTheSame (after_moves s row) (next s row))

-- cells tell the state after a run, of a plan with as many of each as a plan in memory and of inputs whose numbers are of the program's
-- types; proved in tsb_laws, of plans with no value over its object's greatest
abbrev pub CellsTellTheState : (Input → Type 0) → Type 0
CellsTellTheState IsTyped = (plan : Plan) (is : List Input) → IsConsistent plan → IsWide plan →
    AreTaken plan is → ((i : Input) → Contains is i → IsTyped i) → state_in (replay plan is).now (cells_of (replay plan is)) ≡ replay plan is

-- the earlier states that records lead back to are those of the run, under the same premises; proved there too
abbrev pub PastsAreTheRun : (Input → Type 0) → Type 0
PastsAreTheRun IsTyped = (plan : Plan) (is : List Input) → IsConsistent plan → IsWide plan →
    AreTaken plan is → ((i : Input) → Contains is i → IsTyped i) → pasts (replay plan is) (records_of plan is) ≡ run plan is

-- the inputs that remain after right answers were taken, so that laws of runs hold of them
abbrev pub RemainingAreTaken : Type 0
RemainingAreTaken = (plan : Plan) (cs : List Cmd) (ans : List Answer) → AreRight plan cs ans → AreTaken plan (remaining plan cs ans)

-- the field is in no conflict unless the controller has tripped
abbrev pub FieldsAreSafeUnlessTripped : Type 0
FieldsAreSafeUnlessTripped = OfEveryRun (λ s. s.trip ≡ None → conflict s.plan (field s) ≡ None)

-- what a phase keeps only while it is Green, or only while a part runs
pub record Rests (x : Phase) : Type 0 where
  pub red : x.interval ≡ Red → x.timer ≡ Off
  pub dont_walk : x.pedestrian ≡ DontWalk → x.pedestrian_timer ≡ Off
  pub passage : is_green x.interval ≡ false → x.passage ≡ Off
  pub conflict : is_green x.interval ≡ false → x.conflict ≡ Off
  pub reduction : is_green x.interval ≡ false → x.reduction ≡ Off
  pub gapped : is_green x.interval ≡ false → x.gapped ≡ false
  pub forced : is_green x.interval ≡ false → x.forced ≡ false

-- this holds for every phase after every run
abbrev pub PhasesRest : Type 0
PhasesRest = OfEveryRun (λ s. (p : ℕ) → Rests (s.phases p))

-- each phase in service is on the side that is served; a commitment is of that side, in a crossing of the side that it
-- goes to
pub record IsSided (plan : Plan) (interval : ℕ → Interval) (s : rings.State) : Type 0 where
  pub serves : (p : ℕ) → in_service (interval p) ≡ true → side_of plan p ≡ s.side
  pub inside : s.crossing ≡ None → (r : Ring) (c : ℕ) → s.commitment r ≡ Some c → side_of plan c ≡ s.side
  pub across : (d : ℕ) → s.crossing ≡ Some d → (r : Ring) (c : ℕ) → s.commitment r ≡ Some c → side_of plan c ≡ d

-- this holds after every run, by the sides of the plan in effect then
abbrev pub SidesAreServed : Type 0
SidesAreServed = OfEveryRun (λ s. IsSided s.plan (interval s) s.rings)

-- TimersTellTime and TicksEndInTime together, with no word of timers: what a tick ends has held for its time by the
-- plan in effect, this tick included
pub record HasHeld (plan : Plan) (is : List Input) (row : Row) (p : ℕ) : Type 0 where
  pub walk : pedestrian_part (replay plan is) p ≡ Walk → pedestrian_part (replay plan (Tick row ∷ is)) p ≢ Walk →
      walk_time (replay plan is).plan p (ended_by (phases_given (replay plan is) row) p) ≤ suc (held_for (λ s. is_walk (pedestrian_part s p)) plan is)
  pub clearance : pedestrian_part (replay plan is) p ≡ PedestrianClear → pedestrian_part (replay plan (Tick row ∷ is)) p ≢ PedestrianClear →
      clearance_time (replay plan is).plan p (ended_by (phases_given (replay plan is) row) p)
      ≤ suc (held_for (λ s. is_clearance (pedestrian_part s p)) plan is)
  pub green : interval (replay plan is) p ≡ Green → interval (replay plan (Tick row ∷ is)) p ≢ Green →
      least_green (replay plan is).plan p (ended_by (phases_given (replay plan is) row) p) ≤ suc (held_for (λ s. is_green (interval s p)) plan is)
  pub yellow : interval (replay plan is) p ≡ Yellow → interval (replay plan (Tick row ∷ is)) p ≢ Yellow →
      yellow_change (replay plan is).plan p ≤ suc (held_for (λ s. is_yellow (interval s p)) plan is)
  pub red_clear : interval (replay plan is) p ≡ RedClear → interval (replay plan (Tick row ∷ is)) p ≢ RedClear →
      red_clear (replay plan is).plan p ≤ suc (held_for (λ s. is_red_clear (interval s p)) plan is)

-- this holds for each phase in each tick after every run of a controller that has not tripped
abbrev pub EndedHaveHeld : Type 0
EndedHaveHeld = OfEveryUntrippedRun (λ plan is. (row : Row) (p : ℕ) → HasHeld plan is row p)
