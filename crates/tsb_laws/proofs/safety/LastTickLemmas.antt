-- No run goes on past the last tick that there is.
use Rattle.std.proofs.Common.{◌≡◌, ◌+◌, ◌≤◌, List, [], ◌∷◌, Option, Some, None, is_some, if◌then◌else◌, arith, inl, inr}
use Rattle.std.proofs.lemmas.Bool.{cases_lt, le-ltb}
use Rattle.tsb_step.specs.tsb_types.declared.limits.TheConstants.{TICKS}
use Rattle.tsb_step.specs.tsb_plan.Plan.{Plan}
use Rattle.tsb_step.specs.declared.inputs.Input.{Input}
use Rattle.tsb_step.specs.declared.inputs.Input.TheVariants as inputs
use Rattle.tsb_step.specs.Runs.{replay, AreTaken}
use Rattle.tsb_step.specs.Signs.{watched}
use Rattle.tsb_step.specs.State.{State, Tripped, restarted}
use Rattle.tsb_step.specs.Step.{step, verdict}
use Rattle.tsb_step.proofs.ClearLemmas.{one_later}

-- there is no tick after the last
early : (s : State) (i : Input) → verdict s i ≡ None → s.now ≤ TICKS → (step s i).now ≤ TICKS
unfolding step verdict watched
early s (inputs.Tick row) taken below =
    let later : (step s (inputs.Tick row)).now ≡ s.now + 1 = one_later s row in
    elim (cases_lt s.now TICKS) [
      | inl less ↦ omega (arith, later, less)
      | inr more ↦ let bad = rw (le-ltb s.now TICKS more) at taken in absurd cc
    ]
early s (inputs.Fault lamp) taken below = go s.trip
  where
    go : (trip : Option Tripped) → (if is_some trip then record s { lamp = lamp } else watched s (record s { lamp = lamp })).now ≤ TICKS
    go None = below
    go (Some t) = below
early s inputs.Reset taken below = go s.trip
  where
    go : (trip : Option Tripped) → (if is_some trip then restarted s else s).now ≤ TICKS
    go None = below
    go (Some t) = below
early s i taken below = below

pub run_early : (plan : Plan) (is : List Input) → AreTaken plan is → (replay plan is).now ≤ TICKS
run_early plan [] taken = omega arith
run_early plan (i ∷ is) taken = early (replay plan is) i taken.1 (run_early plan is taken.0)
