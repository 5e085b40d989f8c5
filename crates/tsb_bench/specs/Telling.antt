-- What is kept of the cabinet as it was before an input, by which the events of the input are found.
use Rattle.std.specs.Prelude.{◌≡◌, ℕ, None, is_some}
use Rattle.tsb_types.specs.declared.row.Row.{Row}
use Rattle.tsb_types.specs.Clip.{Agree}
use Rattle.tsb_types.specs.Sets.{has}
use Rattle.tsb_phase.specs.Causes.{cause}
use Rattle.tsb_step.specs.declared.inputs.Input.{Input}
use Rattle.tsb_step.specs.declared.inputs.Input.TheVariants.{Tick}
use Rattle.tsb_step.specs.Cells.{clock_at}
use Rattle.tsb_step.specs.declared.log_form.Noted.{Noted}
use Rattle.tsb_step.specs.Events.{completes_minimum, ends_freely, found, selected, view}
use Rattle.tsb_step.specs.MonitorCells.{trip_in}
use Rattle.tsb_step.specs.State.{State}
use Rattle.tsb_step.specs.Step.{step, verdict}
use Rattle.tsb_step.specs.Tick.{phases_given, phase_read}
use Rattle.tsb_events.specs.declared.seen.Found.{Found}
use Rattle.tsb_events.specs.declared.seen.Seen.{Seen}
use Rattle.tsb_events.specs.declared.seen.Selected.{Selected}
use Rattle.tsb_events.specs.Agree.{AgreeInAll, AgreeInFound, AgreeInSelected}
use Rattle.tsb_events.specs.Seen.{found_of, selected_of, view_of}
use Rattle.tsb_controller.specs.declared.causes.Causes.{Causes}
use Rattle.tsb_controller.specs.Causes.{AreCausesOf}
use Rattle.tsb_controller.specs.Layer as layers
use Rattle.tsb_controller.specs.Layer.{IsClosed}
use Rattle.tsb_controller.specs.Whole.{All, all_in}
use Rattle.tsb_bench.specs.declared.telling.Before.{Before}

-- what a log sees in these rows at tick number `now`
abbrev pub Sees : ℕ → All → Seen → Type 0
Sees now a seen = AgreeInAll (view_of seen) (view (all_in now a))

-- what it sees of the selected pattern
abbrev pub SeesSelected : All → Selected → Type 0
SeesSelected a s = (now : ℕ) → AgreeInSelected (selected_of s) (selected (all_in now a))

-- what is kept of these rows at tick number `tick`
pub record IsBefore (tick : ℕ) (a : All) (b : Before) : Type 0 where
  pub seen : Sees tick a b.seen
  pub selected : SeesSelected a b.selected
  pub layers : layers.rows_of b.controller ≡ a.layers
  pub closed : IsClosed b.controller
  pub clock : b.clock ≡ clock_at tick (trip_in a.monitor)
  pub completed : Agree (has b.completed) (completes_minimum (all_in tick a))
  pub tripped : b.seen.flashes ≡ is_some (trip_in a.monitor)

-- at tick number `tick` the input is not refused
abbrev pub IsAllowed : ℕ → All → Input → Type 0
IsAllowed tick a i = verdict (all_in tick a) i ≡ None

-- what ended the greens that the next tick of a state ends by themselves
abbrev pub AreEnds : State → Row → Causes → Type 0
AreEnds s row result =
    AreCausesOf (ends_freely s row (step s (Tick row))) (λ p. cause s.plan (phases_given s row) p (phase_read s p)) result

-- what a tick finds that leads from a state to the next
abbrev pub IsFound : Noted → State → Row → Found → Type 0
IsFound noted s row result = AgreeInFound (found_of result) (found noted s row (step s (Tick row)))
