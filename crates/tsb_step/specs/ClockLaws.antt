-- What a clock changes: how local counters count, and nothing else; and nothing at all in a run that sets none. Each law
-- here is the contract of a function in src/clock_laws.rt, and proved there.
use Rattle.std.specs.Prelude.{◌≡◌, ℕ, Bool, true, false, List, [], ◌∷◌, Option, None}
use Rattle.tsb_objects.specs.tsb_plan.Plan.{Plan}
use Rattle.tsb_coord.specs.Correction.{clocked}
use Rattle.tsb_step.specs.declared.inputs.Input.{Input}
use Rattle.tsb_step.specs.declared.inputs.Input.TheVariants.{Clock}
use Rattle.tsb_step.specs.State.{State}
use Rattle.tsb_step.specs.Step.{step}
use Rattle.tsb_step.specs.Signs.{display}
use Rattle.tsb_step.specs.Runs.{replay}

-- ## Without a clock

-- the input sets a clock
abbrev pub sets_clock : Input → Bool
sets_clock (Clock m) = true
sets_clock i = false

-- none of these does
abbrev pub HasNoClock : List Input → Type 0
HasNoClock [] = Unit {0}
HasNoClock (i ∷ is) = (sets_clock i ≡ false) × HasNoClock is

-- tick number 0 has no moment, and in each plan and pattern a counter in step counts from tick number 0
pub record CountsTicks (s : State) : Type 0 where
  pub start : s.start_moment ≡ None
  pub counts : (plan : Plan) (selected : Option ℕ) (t : ℕ) → clocked plan selected s.correction t ≡ t

-- this holds after each run without a clock
abbrev pub NoClockNoChange : Type 0
NoClockNoChange = (plan : Plan) (is : List Input) → HasNoClock is → CountsTicks (replay plan is)

-- ## With a clock

-- of a state it changes how the local counter comes into step, and the moment of tick number 0
abbrev pub ChangesTheCounterAlone : Type 0
ChangesTheCounterAlone = (s : State) (m : ℕ) →
    step s (Clock m) ≡ record s { correction = (step s (Clock m)).correction; start_moment = (step s (Clock m)).start_moment }

-- so the heads show what they showed
abbrev pub ChangesNoDisplay : Type 0
ChangesNoDisplay = (s : State) (m : ℕ) → display (step s (Clock m)) ≡ display s
