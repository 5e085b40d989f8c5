-- The dynamic maximum: between which times the maximum in use stays, and how far it moves. The law here is the contract
-- of a function in src/operation.rt, and proved there. Times are in tenths of a second, which are ticks.
use Rattle.std.specs.Prelude.{◌≡◌, ◌≢◌, ℕ, ◌+◌, ◌≤◌, false, min, max, None}
use Rattle.tsb_step.specs.tsb_types.declared.interval.Interval.TheVariants.{Green, Yellow}
use Rattle.tsb_step.specs.tsb_types.declared.row.Row.{Row}
use Rattle.tsb_step.specs.tsb_plan.Plan.{maximum, dynamic_maximum_limit, dynamic_maximum_step}
use Rattle.tsb_step.specs.tsb_phase.DynamicMaximum.{maximum_in_use}
use Rattle.tsb_step.specs.declared.inputs.Input.{Input}
use Rattle.tsb_step.specs.declared.inputs.Input.TheVariants.{Tick}
use Rattle.tsb_step.specs.State.{State, interval}
use Rattle.tsb_step.specs.Tick.{service, runs}
use Rattle.tsb_step.specs.Step.{step}
use Rattle.tsb_step.specs.Laws.{OfEveryRun}
use Rattle.tsb_step.specs.TimeLaws.{is_tick}
use Rattle.tsb_laws.specs.KeptCalls.{restarts}

-- the maximum in use of p: its running maximum where its maximum is dynamic, and else its maximum
abbrev pub maximum_of : State → ℕ → ℕ
maximum_of s p = maximum_in_use s.plan p (s.phases p).running_maximum

-- it lies between the maximum and the limit of the dynamic maximum, whichever is the smaller, or is the maximum
pub record IsBounded (s : State) (p : ℕ) : Type 0 where
  pub least : min (maximum s.plan p) (dynamic_maximum_limit s.plan p) ≤ maximum_of s p
  pub most : maximum_of s p ≤ max (maximum s.plan p) (dynamic_maximum_limit s.plan p)

-- So it is of each phase after every run, by the plan in effect then.
abbrev pub MaximumsAreBounded : Type 0
MaximumsAreBounded = OfEveryRun (λ s. (p : ℕ) → IsBounded s p)

-- Over a tick the maximum in use goes up by a step at most, and down by a step at most; and where it moves at all, the
-- tick ends the green of the phase, in free operation and with no preempt in service.
pub record MovesByAStep (s : State) (row : Row) (p : ℕ) : Type 0 where
  pub up : maximum_of (step s (Tick row)) p ≤ maximum_of s p + dynamic_maximum_step s.plan p
  pub down : maximum_of s p ≤ maximum_of (step s (Tick row)) p + dynamic_maximum_step s.plan p
  pub was_green : maximum_of (step s (Tick row)) p ≢ maximum_of s p → interval s p ≡ Green
  pub ends : maximum_of (step s (Tick row)) p ≢ maximum_of s p → interval (step s (Tick row)) p ≡ Yellow
  pub freely : maximum_of (step s (Tick row)) p ≢ maximum_of s p → runs s ≡ None
  pub alone : maximum_of (step s (Tick row)) p ≢ maximum_of s p → service s row ≡ None

-- So it is of each phase in each tick after every run: it moves by one step a green at most.
abbrev pub MaximumsMoveByAStep : Type 0
MaximumsMoveByAStep = OfEveryRun (λ s. (row : Row) (p : ℕ) → MovesByAStep s row p)

-- No other input moves it, unless it changes the plan, as a commit may, or resets a controller that has tripped.
abbrev pub OthersLeaveMaximums : Type 0
OthersLeaveMaximums = OfEveryRun (λ s. (i : Input) (p : ℕ) → is_tick i ≡ false → (step s i).plan ≡ s.plan → restarts s i ≡ false →
    maximum_of (step s i) p ≡ maximum_of s p)
