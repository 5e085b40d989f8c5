-- Why a green ends: what a tick that ends one has found, and for how long that had held. The law here is the contract of
-- a function in src/operation.rt, and proved there. Times are in tenths of a second, which are ticks.
--
-- A plan here has 16 phases at most, as every plan in memory has: of a phase of a greater number phase timing is given
-- nothing.
use Rattle.std.specs.Prelude.{◌≡◌, ℕ, suc, ◌+◌, ◌≤◌, Bool, true, false, not, ◌&&◌, if◌then◌else◌, min, List, [], ◌∷◌, Option, Some, None, is_some, is_none, ◌⊎◌}
use Rattle.tsb_step.specs.tsb_types.declared.row.Row.{Row}
use Rattle.tsb_step.specs.tsb_types.Intervals.{is_green}
use Rattle.tsb_step.specs.tsb_plan.Parts.{preempt_minimum_green}
use Rattle.tsb_step.specs.tsb_plan.Plan.{Plan, disables_simultaneous_gap}
use Rattle.tsb_step.specs.tsb_plan.Running.{is_on_maximum_recall, floating_time}
use Rattle.tsb_step.specs.tsb_calls.Memories.{has_output}
use Rattle.tsb_step.specs.tsb_phase.Phase.{held_of}
use Rattle.tsb_step.specs.tsb_phase.Green.{gap, initial, reduction_timer, acting_maximum}
use Rattle.tsb_step.specs.declared.inputs.Input.{Input}
use Rattle.tsb_step.specs.declared.inputs.Input.TheVariants.{Tick, Pattern}
use Rattle.tsb_step.specs.State.{State, interval}
use Rattle.tsb_step.specs.Tick.{service, must_end, runs, hold, forced, calls_given, conflict, phases_given, phase_read}
use Rattle.tsb_step.specs.Step.{kind_of}
use Rattle.tsb_step.specs.Runs.{replay, AreTaken}
use Rattle.tsb_step.specs.Past.{ticks_of}
use Rattle.tsb_step.specs.Laws.{IsConsistent}
use Rattle.tsb_step.specs.TimeLaws.{held_for}
use Rattle.tsb_laws.specs.Stretches.{EndsGreen}

-- ## What has held in a green

-- a test of ticks; any other input passes it
abbrev pub in_ticks : (State → Row → Bool) → State → Input → Bool
in_ticks test s (Tick row) = test s row
in_ticks test s i = true

-- for how many of the newest ticks p has been Green after the tick and the test has held in it
abbrev pub ticks_in_green : (State → Input → Bool) → ℕ → Plan → List Input → ℕ
ticks_in_green test p plan [] = 0
ticks_in_green test p plan (i ∷ is) =
    if is_green (interval (replay plan (i ∷ is)) p) && test (replay plan is) i
    then ticks_of (kind_of i) + ticks_in_green test p plan is else 0

-- no output of p is on in the tick
abbrev pub has_no_output : ℕ → State → Row → Bool
has_no_output p s row = not (has_output s.plan (calls_given s row) p)

-- p has a conflict in the tick: some other callable phase is not concurrent with it
abbrev pub has_conflict : ℕ → State → Row → Bool
has_conflict p s row = conflict s row p

-- something has happened in the tick; in no other input it has
abbrev pub happened : (List Input → Row → Type 0) → List Input → Input → Type 0
happened fact is (Tick row) = fact is row
happened fact is i = ⊥

-- something has happened in a tick of the green that p is in, and a test has held over that and each later input
abbrev pub StandsInGreen : (List Input → Row → Type 0) → (State → Input → Bool) → ℕ → Plan → List Input → Type 0
StandsInGreen fact test p plan [] = ⊥
StandsInGreen fact test p plan (i ∷ is) =
    (is_green (interval (replay plan (i ∷ is)) p) ≡ true) × (test (replay plan is) i ≡ true)
    × (happened fact is i ⊎ StandsInGreen fact test p plan is)

-- ## By its gap

-- the gap of p in the tick: from its passage time down to its minimum gap, by how long it has been reduced
abbrev pub gap_now : State → Row → ℕ → ℕ
gap_now s row p = gap s.plan p (reduction_timer s.plan (phases_given s row) p (held_of (phase_read s p)))

-- the gap of p has expired in the tick `row` after the inputs `is`: no output of it is on, nor was in so many ticks of
-- this green before
pub record GapExpires (plan : Plan) (p : ℕ) (is : List Input) (row : Row) : Type 0 where
  pub off : has_no_output p (replay plan is) row ≡ true
  pub long : gap_now (replay plan is) row p ≤ ticks_in_green (in_ticks (has_no_output p)) p plan is

-- its gap has expired in an earlier tick of this green, from which on it has had a conflict
abbrev pub HasGappedOut : Plan → ℕ → List Input → Type 0
HasGappedOut plan p = StandsInGreen (GapExpires plan p) (in_ticks (has_conflict p)) p plan

-- with simultaneous gap disabled that counts for as long as it has a conflict
pub record HasLatchedGap (plan : Plan) (p : ℕ) (is : List Input) (row : Row) : Type 0 where
  pub disabled : disables_simultaneous_gap (replay plan is).plan p ≡ true
  pub conflict : has_conflict p (replay plan is) row ≡ true
  pub before : HasGappedOut plan p is

-- p ends by its gap: it has no maximum recall, of its own or of its split mode, and its gap has expired
pub record IsByGap (plan : Plan) (p : ℕ) (is : List Input) (row : Row) : Type 0 where
  pub free : is_on_maximum_recall (replay plan is).plan (runs (replay plan is)) p ≡ false
  pub gapped : GapExpires plan p is row ⊎ HasLatchedGap plan p is row

-- ## By its maximum, or by force-off

-- the maximum that acts on p: in free operation its maximum in use. While a pattern runs it is by `coordMaximumMode`,
-- none with 0 and of a coordinated phase
abbrev pub maximum_acting : State → ℕ → Option ℕ
maximum_acting s p = acting_maximum s.plan (runs s) p (s.phases p).running_maximum

-- p ends by its maximum: one acts on it, it has a conflict, and it has had one in so many ticks of this green before
pub record IsByMaximum (plan : Plan) (p : ℕ) (is : List Input) (row : Row) : Type 0 where
  pub maximum : ℕ
  pub acts : maximum_acting (replay plan is) p ≡ Some maximum
  pub conflict : has_conflict p (replay plan is) row ≡ true
  pub long : maximum ≤ ticks_in_green (in_ticks (has_conflict p)) p plan is

-- for how many ticks p has been Green, the one that comes included
abbrev pub green_for : Plan → ℕ → List Input → ℕ
green_for plan p is = suc (held_for (λ s. is_green (interval s p)) plan is)

-- floating force-off has come to p: its green has lasted its split less yellow change and red clearance, where the plan
-- has floating force-off and p is not coordinated in the pattern that runs
pub record HasFloated (plan : Plan) (p : ℕ) (is : List Input) : Type 0 where
  pub time : ℕ
  pub floating : floating_time (replay plan is).plan (runs (replay plan is)) p ≡ Some time
  pub long : time ≤ green_for plan p is

-- a pattern runs, no preempt is in service, and p has a conflict; a pattern that is selected takes its force-off back
abbrev pub keeps_force_off : ℕ → State → Input → Bool
keeps_force_off p s (Tick row) = is_some (runs s) && (is_none (service s row) && conflict s row p)
keeps_force_off p s (Pattern n) = false
keeps_force_off p s i = true

-- p is forced off in this tick, and was Green before it: by the cycle, at its instant, late or in its permissive time,
-- or by floating force-off
pub record IsForcedOff (plan : Plan) (p : ℕ) (is : List Input) (row : Row) : Type 0 where
  pub was_green : is_green (interval (replay plan is) p) ≡ true
  pub forced : (forced (replay plan is) p ≡ true) ⊎ HasFloated plan p is

-- it was an earlier tick of this green, from which on it has not been taken back
abbrev pub HasBeenForcedOff : Plan → ℕ → List Input → Type 0
HasBeenForcedOff plan p = StandsInGreen (IsForcedOff plan p) (keeps_force_off p) p plan

-- p ends by its force-off
pub record IsByForceOff (plan : Plan) (p : ℕ) (is : List Input) (row : Row) : Type 0 where
  pub conflict : has_conflict p (replay plan is) row ≡ true
  pub forced : IsForcedOff plan p is row ⊎ HasBeenForcedOff plan p is

-- ## Why it ends

-- the initial time of p: its minimum green, with variable initial the added initial of the vehicles that it has counted
abbrev pub initial_of : State → ℕ → ℕ
initial_of s p = initial s.plan p (s.memories.count p)

-- The tick `row` after the inputs `is` ends the green of p, and why.
pub record EndsForAReason (plan : Plan) (p : ℕ) (is : List Input) (row : Row) : Type 0 where
  -- with no preempt in service it has lasted its initial time
  pub initial : service (replay plan is) row ≡ None → initial_of (replay plan is) p ≤ green_for plan p is
  -- and in free operation it ends by its gap or by its maximum
  pub free : service (replay plan is) row ≡ None → runs (replay plan is) ≡ None → IsByGap plan p is row ⊎ IsByMaximum plan p is row
  -- while a pattern runs, by its gap, by a maximum where one acts in patterns, or by force-off
  pub pattern : (n : ℕ) → service (replay plan is) row ≡ None → runs (replay plan is) ≡ Some n →
      IsByGap plan p is row ⊎ (IsByMaximum plan p is row ⊎ IsByForceOff plan p is row)
  -- a coordinated phase by force-off alone
  pub coordinated : service (replay plan is) row ≡ None → hold (replay plan is) p ≡ true → IsByForceOff plan p is row
  -- under a preempt only as it is none of the phases that this wants, after the smaller of its initial time and the
  -- preempt's minimum green
  pub preempted : (n : ℕ) → service (replay plan is) row ≡ Some n → must_end (replay plan is) row p ≡ true
  pub entered : (n : ℕ) → service (replay plan is) row ≡ Some n →
      min (initial_of (replay plan is) p) (preempt_minimum_green (replay plan is).plan n) ≤ green_for plan p is

-- So it is in every run, while the controller has not tripped.
abbrev pub GreensEndForAReason : Type 0
GreensEndForAReason = (plan : Plan) (is : List Input) (row : Row) (p : ℕ) → IsConsistent plan → plan.phase_count ≤ 16 →
    AreTaken plan is → (replay plan is).trip ≡ None → EndsGreen plan is row p → EndsForAReason plan p is row
