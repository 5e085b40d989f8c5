-- What a green that ends has had, and what follows it, tick by tick, until its phase is over: yellow change, red
-- clearance, and for a coordinated phase where the local counter is then. Each law here is the contract of a function
-- in src/clearance_laws.rt, and proved there. Times are in tenths of a second, which are ticks.
use Rattle.std.specs.Prelude.{◌≡◌, ℕ, zero, suc, ◌+◌, ◌<◌, ◌≤◌, ◌==◌, true, Some, None}
use Rattle.tsb_cells.specs.Timer.{has_reached}
use Rattle.tsb_types.specs.declared.interval.Interval.TheVariants.{Yellow, RedClear}
use Rattle.tsb_types.specs.declared.interval.PedestrianInterval.TheVariants.{DontWalk}
use Rattle.tsb_types.specs.declared.row.Row.{Row}
use Rattle.tsb_objects.specs.tsb_plan.Plan.{Plan, is_enabled, yellow_change}
use Rattle.tsb_objects.specs.tsb_plan.declared.plan.patterns.CorrectionMode.TheVariants.{AtOnce}
use Rattle.tsb_objects.specs.tsb_plan.Parts.{cycle, permissive_time, correction_mode}
use Rattle.tsb_objects.specs.tsb_plan.Running.{is_coordinated_now}
use Rattle.tsb_phase.specs.ClearanceLaws.{clearance}
use Rattle.tsb_phase.specs.Laws.{least_green}
use Rattle.tsb_phase.specs.Pedestrian.{ended_by, pedestrian_now}
use Rattle.tsb_ring.specs.Moves.{is_ended, is_cleared, is_started}
use Rattle.tsb_coord.specs.Coordinated.{is_pattern, residue_of_difference, end_of}
use Rattle.tsb_coord.specs.Laws.{IsCountedFrom, IsAtMostBehind}
use Rattle.tsb_step.specs.declared.inputs.Input.TheVariants.{Tick}
use Rattle.tsb_step.specs.State.{State, interval}
use Rattle.tsb_step.specs.Tick.{phases_given, phase_read, forced, moves, over, reverted}
use Rattle.tsb_step.specs.Signs.{local, IsInStep}
use Rattle.tsb_step.specs.Step.{step}
use Rattle.tsb_step.specs.Laws.{OfEveryRun}

-- ## What a move has waited for

-- A green that ends, also where a crossing begins or a preempt ends it, has lasted the minimum green, under a preempt
-- that ends it the smaller of that and the preempt's; and its pedestrian part is then DontWalk.
pub record HasLasted (s : State) (row : Row) (p : ℕ) : Type 0 where
  pub lasted : has_reached (phase_read s p).timer (least_green s.plan p (ended_by (phases_given s row) p)) ≡ true
  pub dont_walk : pedestrian_now s.plan (phases_given s row) p (phase_read s p) ≡ DontWalk

-- So it is of each green that the rings end, in whatever state and by whatever row.
abbrev pub EndedGreensHaveLasted : Type 0
EndedGreensHaveLasted = (s : State) (row : Row) (p : ℕ) → is_ended (moves s row) p ≡ true → HasLasted s row p

-- A phase that goes Red is over: its yellow change and red clearance have lasted their times.
abbrev pub ClearedAreOver : Type 0
ClearedAreOver = (s : State) (row : Row) (p : ℕ) → is_cleared (moves s row) p ≡ true → over s p ≡ true

-- A phase that starts has passed its red revert, or its red revert timer is Off.
abbrev pub StartedHaveReverted : Type 0
StartedHaveReverted = (s : State) (row : Row) (p : ℕ) → is_started (moves s row) p ≡ true → reverted s p ≡ true

-- ## What follows a green

-- the state after k more ticks with these rows
abbrev pub after_ticks : State → (ℕ → Row) → ℕ → State
after_ticks s rows zero = s
after_ticks s rows (suc k) = step (after_ticks s rows k) (Tick (rows k))

-- the green of an enabled phase ends in the first of these ticks, and the controller does not trip before its clearance
-- has passed
pub record EndsNow (s : State) (rows : ℕ → Row) (p : ℕ) : Type 0 where
  pub enabled : is_enabled s.plan p ≡ true
  pub ends : is_ended (moves s (rows 0)) p ≡ true
  pub untripped : (k : ℕ) → k ≤ clearance s.plan p → (after_ticks s rows k).trip ≡ None

-- then it is Yellow for its yellow change time and in red clearance for its red clearance time; it is over in the tick
-- that comes the sum of both after the one that ends its green, and in none before
pub record ClearsInTime (s : State) (rows : ℕ → Row) (p : ℕ) : Type 0 where
  pub yellow : (k : ℕ) → k < yellow_change s.plan p → interval (after_ticks s rows (suc k)) p ≡ Yellow
  pub red_clear : (k : ℕ) → yellow_change s.plan p ≤ k → k < clearance s.plan p →
      interval (after_ticks s rows (suc k)) p ≡ RedClear
  pub over : (k : ℕ) → k < clearance s.plan p → over (after_ticks s rows (suc k)) p ≡ (k + 1 == clearance s.plan p)

-- Whatever the rows are: a green that ends is followed by its yellow change and its red clearance, each in full, where
-- no other inputs than ticks come between.
abbrev pub GreensClearInTime : Type 0
GreensClearInTime = OfEveryRun (λ s. (rows : ℕ → Row) (p : ℕ) → EndsNow s rows p → ClearsInTime s rows p)

-- ## The local counter in step

-- With coordCorrectionMode 0 the local counter is in step, in whatever state.
abbrev pub InStepAtOnce : Type 0
InStepAtOnce = (s : State) → correction_mode s.plan ≡ AtOnce → IsInStep s

-- Once in step it stays so over ticks, from whatever state and whatever the rows are.
abbrev pub StaysInStep : Type 0
StaysInStep = (s : State) (rows : ℕ → Row) (k : ℕ) → IsInStep s → IsInStep (after_ticks s rows k)

-- ## Where the local counter is then

-- a coordinated phase of the pattern that runs, whose local counter is in step, forced off in the tick in which its
-- green ends; that is at its instant, or in its permissive time
pub record IsForcedOff (s : State) (n p : ℕ) : Type 0 where
  pub selected : s.pattern ≡ Some n
  pub used : is_pattern s.plan n ≡ true
  pub coordinated : is_coordinated_now s.plan (Some n) p ≡ true
  pub in_step : IsInStep s
  pub forced : forced s p ≡ true

-- it is over in a tick after which the local counter is this, or at most the permissive time of pattern n behind it
pub record IsOverInTime (s : State) (rows : ℕ → Row) (n p from : ℕ) : Type 0 where
  pub over : over (after_ticks s rows (clearance s.plan p)) p ≡ true
  pub local : IsAtMostBehind s.plan n from (permissive_time s.plan n) (local (after_ticks s rows (suc (clearance s.plan p))))

-- A coordinated phase that is forced off has ended its yellow change and red clearance at local zero, or within its
-- permissive time of it: each, and where the pattern leads and lags the one that instants are counted from.
abbrev pub CoordinatedClearAtZero : Type 0
CoordinatedClearAtZero = OfEveryRun (λ s. (rows : ℕ → Row) (n p : ℕ) → IsForcedOff s n p → IsCountedFrom s.plan n p → EndsNow s rows p →
    IsOverInTime s rows n p 0)

-- the end of the split of p in pattern n, on the local counter that is 0 at the end of the split of c
abbrev pub split_end_from : Plan → ℕ → ℕ → ℕ → ℕ
split_end_from plan n c p = residue_of_difference (cycle plan n) (end_of plan n p) (end_of plan n c)

-- So it is with any coordinated phase, also where the pattern leads and lags, at the end of its own split.
abbrev pub CoordinatedClearWithTheirSplits : Type 0
CoordinatedClearWithTheirSplits = OfEveryRun (λ s. (rows : ℕ → Row) (n p c : ℕ) → IsForcedOff s n p → IsCountedFrom s.plan n c →
    EndsNow s rows p → IsOverInTime s rows n p (split_end_from s.plan n c p))
