-- What holds of the events of ticks. Each law here is the contract of a function in src/event_laws.rt, and proved there.
use Rattle.std.specs.Prelude.{◌≡◌, ℕ, ◌+◌, ◌≤◌, Bool, true, false, if◌then◌else◌, [], None}
use Rattle.tsb_types.specs.declared.row.Row.{Row}
use Rattle.tsb_coord.specs.Cycle.{comes_to_zero, cycle_state, yields}
use Rattle.tsb_step.specs.declared.inputs.Input.TheVariants.{Tick}
use Rattle.tsb_step.specs.declared.log_form.Noted.{Noted}
use Rattle.tsb_step.specs.Events.{Found, completes_minimum, completes_red, ends_freely, events_of, found}
use Rattle.tsb_step.specs.Quiet.{IsQuiet}
use Rattle.tsb_step.specs.State.{State}
use Rattle.tsb_step.specs.Step.{step}

-- 1 where it holds
abbrev pub one_if : Bool → ℕ
one_if b = if b then 1 else 0

-- in how many of the three ways a tick that found this ended the green of phase p
abbrev pub causes_told : Found → ℕ → ℕ
causes_told f p = one_if (f.gap p) + one_if (f.maximum p) + one_if (f.force_off p)

-- what a tick finds that is the next input of a state
abbrev pub found_next : Noted → State → Row → Found
found_next noted s row = found noted s row (step s (Tick row))

-- a green that a tick ends, and that no preempt asked to end, has exactly one of the three causes
abbrev pub GreensEndWithOneCause : Type 0
GreensEndWithOneCause = (noted : Noted) (s : State) (row : Row) (p : ℕ) → s.trip ≡ None →
    ends_freely s row (step s (Tick row)) p ≡ true → causes_told (found_next noted s row) p ≡ 1

-- any other phase has none
abbrev pub OthersHaveNoCause : Type 0
OthersHaveNoCause = (noted : Noted) (s : State) (row : Row) (p : ℕ) →
    ends_freely s row (step s (Tick row)) p ≡ false → causes_told (found_next noted s row) p ≡ 0

-- the next tick ends no minimum green and no time of a red clearance; in it the local counter comes to no place that
-- has an event, and goes on as it did
pub record EndsNoTime (s : State) : Type 0 where
  pub minimum : (p : ℕ) → 1 ≤ p → p ≤ 16 → completes_minimum s p ≡ false
  pub red : (p : ℕ) → 1 ≤ p → p ≤ 16 → completes_red s p ≡ false
  pub cycle : cycle_state s.plan s.pattern s.correction (s.now + 1) ≡ cycle_state s.plan s.pattern s.correction s.now
  pub zero : comes_to_zero s.plan s.pattern s.correction (s.now + 1) ≡ false
  pub yields : (p : ℕ) → 1 ≤ p → p ≤ 16 → yields s.plan s.pattern s.correction (s.now + 1) p ≡ false

-- a quiet tick with the inputs of the tick before it has no events, where it ends no such time
abbrev pub QuietTicksTellNothing : Type 0
QuietTicksTellNothing = (noted : Noted) (s : State) → IsQuiet s (step s (Tick noted.row)) → EndsNoTime s →
    events_of noted s (Tick noted.row) ≡ []
