-- What a clock changes, and a run without one.
use Rattle.std.proofs.Common.{◌≡◌, ℕ, ◌+◌, Bool, true, false, if◌then◌else◌, List, [], ◌∷◌, Option, Some, None, is_some, refl, ap, ◌∙◌}
use Rattle.tsb_types.specs.declared.lamp.Lamp.{Lamp}
use Rattle.tsb_types.specs.declared.row.Row.{Row}
use Rattle.tsb_objects.specs.tsb_plan.Parts.{cycle}
use Rattle.tsb_objects.specs.tsb_plan.Plan.{Plan}
use Rattle.tsb_coord.specs.Clock.{midnight_at, shift}
use Rattle.tsb_coord.specs.Coordinated.{selects}
use Rattle.tsb_coord.specs.declared.correction.Correction.{Correction}
use Rattle.tsb_coord.specs.Correction.{ahead_from, selected_correction}
use Rattle.tsb_coord.proofs.ClockLemmas.{counts_from_tick_0}
use Rattle.tsb_coord.proofs.CorrectionLemmas.{begun_from}
use Rattle.tsb_step.specs.declared.inputs.Input.{Input}
use Rattle.tsb_step.specs.declared.inputs.Input.TheVariants as inputs
use Rattle.tsb_step.specs.State.{State, restarted}
use Rattle.tsb_step.specs.Signs.{display, local, watched}
use Rattle.tsb_step.specs.Step.{step, reset, with_lamp}
use Rattle.tsb_step.specs.Tick.{next}
use Rattle.tsb_step.specs.Runs.{replay}
use Rattle.tsb_step.specs.ClockLaws.{sets_clock, HasNoClock, CountsTicks}
use Rattle.tsb_step.proofs.ClearLemmas.{correction_stays}

-- no clock is set, and what counts does so from no midnight
record IsUnset (s : State) : Type 0 where
  start : s.start_moment ≡ None
  midnight : s.correction.midnight ≡ 0

pub start_stays : (s : State) (row : Row) → (step s (inputs.Tick row)).start_moment ≡ s.start_moment
unfolding step watched
start_stays s row = go (is_some s.trip)
  where
    go : (b : Bool) → (if b then record s { now = s.now + 1 } else (if b then next s row else watched s (next s row))).start_moment ≡ s.start_moment
    go true = refl
    go false = refl

lit_unset : (s : State) (lamp : Option Lamp) → IsUnset s → IsUnset (with_lamp lamp s)
unfolding watched
lit_unset s lamp un = go (is_some s.trip)
  where
    go : (b : Bool) → IsUnset (if b then record s { lamp = lamp } else watched s (record s { lamp = lamp }))
    go true = record { start = un.start; midnight = un.midnight }
    go false = record { start = un.start; midnight = un.midnight }

reset_unset : (s : State) → IsUnset s → IsUnset (reset s)
reset_unset s un = go (is_some s.trip)
  where
    go : (b : Bool) → IsUnset (if b then restarted s else s)
    go true = record { start = un.start; midnight = refl }
    go false = un

from_none : (plan : Plan) (selected : Option ℕ) (now midnight : ℕ) (l : Option ℕ) → midnight ≡ 0 → (selected_correction plan selected now midnight l).midnight ≡ 0
from_none plan None now midnight l none = refl
from_none plan (Some n) now midnight l none = begun_from now midnight (ahead_from plan n (now + shift (cycle plan n) midnight) l) ∙ none

unset_after : (s : State) (i : Input) → sets_clock i ≡ false → IsUnset s → IsUnset (step s i)
unfolding step
unset_after s (inputs.Tick row) h un = record { start = start_stays s row ∙ un.start; midnight = ap (λ (c : Correction). c.midnight) (correction_stays s row) ∙ un.midnight }
unset_after s (inputs.Pattern n) h un = record {
  start = un.start;
  midnight = from_none s.plan (selects n) s.now (midnight_at s.start_moment s.now) (local s) (ap (λ (o : Option ℕ). midnight_at o s.now) un.start);
}
unset_after s (inputs.Fault lamp) h un = lit_unset s lamp un
unset_after s inputs.Reset h un = reset_unset s un
unset_after s (inputs.Clock m) h un = cc
unset_after s i h un = record { start = un.start; midnight = un.midnight }

unset_run : (plan : Plan) (is : List Input) → HasNoClock is → IsUnset (replay plan is)
unset_run plan [] none = record { start = refl; midnight = refl }
unset_run plan (i ∷ is) none = unset_after (replay plan is) i none.0 (unset_run plan is none.1)

pub no_clock_no_change : (plan : Plan) (is : List Input) → HasNoClock is → CountsTicks (replay plan is)
no_clock_no_change plan is none =
    let un : IsUnset (replay plan is) = unset_run plan is none in
    record { start = un.start; counts = λ other selected t. counts_from_tick_0 other selected (replay plan is).correction 0 t un.midnight }

pub changes_the_counter_alone : (s : State) (m : ℕ) →
    step s (inputs.Clock m) ≡ record s { correction = (step s (inputs.Clock m)).correction; start_moment = (step s (inputs.Clock m)).start_moment }
unfolding step
changes_the_counter_alone s m = refl

pub changes_no_display : (s : State) (m : ℕ) → display (step s (inputs.Clock m)) ≡ display s
unfolding step display
changes_no_display s m = refl
