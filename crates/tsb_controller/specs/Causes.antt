-- What ends the greens that a tick ends, over the controller's rows as they were before it.
use Rattle.std.specs.Prelude.{◌≡◌, ℕ, ◌-◌, ◌≤◌, ◌==◌, Bool, ◌&&◌, ◌||◌, List, Option, Some, is_none}
use Rattle.tsb_step.specs.tsb_types.declared.lamp.Lamp.{Lamp}
use Rattle.tsb_step.specs.tsb_types.declared.phase_set.PhaseSet.{PhaseSet}
use Rattle.tsb_step.specs.tsb_types.declared.row.Row.{Row}
use Rattle.tsb_step.specs.tsb_types.Clip.{Agree}
use Rattle.tsb_step.specs.tsb_types.Intervals.{is_green}
use Rattle.tsb_step.specs.tsb_types.Sets.{has, has_number}
use Rattle.tsb_step.specs.tsb_plan.Plan.{Plan}
use Rattle.tsb_phase.specs.declared.cause.Cause.{Cause}
use Rattle.tsb_phase.specs.declared.cause.Cause.TheVariants.{ForceOff, Gap, Maximum}
use Rattle.tsb_phase.specs.declared.conditions.Conditions.{Conditions}
use Rattle.tsb_phase.specs.Causes.{cause}
use Rattle.tsb_phase.specs.Cells.{phase_in}
use Rattle.tsb_phase.specs.Pedestrian.{ended_by}
use Rattle.tsb_phase.specs.Promises.{given_of, read_in}
use Rattle.tsb_preempt.specs.Preempts.{has_been_served}
use Rattle.tsb_transact.specs.Desk.{Desk}
use Rattle.tsb_step.specs.Cells.{clock_at}
use Rattle.tsb_step.specs.Events.{is_cause}
use Rattle.tsb_step.specs.State.{State, interval}
use Rattle.tsb_step.specs.Tick.{phases_given, phase_read, preempts_given, preempts_read}
use Rattle.tsb_controller.specs.declared.causes.Causes.{Causes}
use Rattle.tsb_controller.specs.Rows.{Rows, Beside, state_of, untripped}

-- a set of phases that ended by `c`, with phase p, which ended by `d`
abbrev pub with_cause : Cause → ℕ → Cause → (ℕ → Bool) → ℕ → Bool
with_cause c p d others n = (n == p && is_cause c (Some d)) || others n

-- each set has those of these phases whose cause a test finds
pub record AreCausesOf (test : ℕ → Bool) (found : ℕ → Option Cause) (result : Causes) : Type 0 where
  pub gap : Agree (has_number result.gap) (λ p. test p && is_cause Gap (found p))
  pub maximum : Agree (has_number result.maximum) (λ p. test p && is_cause Maximum (found p))
  pub force_off : Agree (has_number result.force_off) (λ p. test p && is_cause ForceOff (found p))

-- by what phase timing is given in tick `now`
abbrev pub AreFound : ℕ → PhaseSet → Conditions → Plan → List ℕ → Causes → Type 0
AreFound now ended conditions plan row result =
    AreCausesOf (has ended) (λ p. cause plan (given_of conditions) p (read_in now row p)) result

-- the phases that are Green, and in a set, at whatever tick
abbrev pub TellsEnded : PhaseSet → Rows → PhaseSet → Type 0
TellsEnded yellow rows result = (now p : ℕ) → 1 ≤ p → p ≤ 16 → has result p ≡ (is_green (phase_in now rows.phases p).interval && has yellow p)

-- it was Green, is Yellow after the tick, and no preempt asked for its end
abbrev pub ends_by_itself : State → Row → PhaseSet → ℕ → Bool
ends_by_itself s row yellow p = is_green (interval s p) && (has yellow p && is_none (ended_by (phases_given s row) p))

-- `causes(yellow, now, row, plan)`: by what the step finds, whatever the desk and the lamp
abbrev pub TellsCauses : ℕ → Row → PhaseSet → Plan → Rows → Causes → Type 0
TellsCauses now row yellow plan rows result = (desk : Desk) (lamp : Option Lamp) →
    let s : State = state_of (now - 1) (untripped plan desk lamp) rows in
    AreCausesOf (ends_by_itself s row yellow) (λ p. cause plan (phases_given s row) p (phase_read s p)) result

-- `is_served(clock, row, plan)`: at whatever tick number, where timers are read at `clock`
abbrev pub TellsServed : ℕ → Row → Plan → Rows → Bool → Type 0
TellsServed clock row plan rows result = (now : ℕ) (b : Beside) → b.plan ≡ plan → clock_at now b.trip ≡ clock →
    result ≡ has_been_served plan (preempts_given (state_of now b rows) row) (preempts_read (state_of now b rows))
