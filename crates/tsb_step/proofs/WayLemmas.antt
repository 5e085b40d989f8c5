-- What the way back rests on: records take their inputs back, and the tick number goes on by one at most.
use Rattle.std.proofs.Common.{◌≡◌, ℕ, ◌+◌, ◌-◌, ◌≤◌, Bool, true, false, if◌then◌else◌, is_some, length, refl, ap, arith, ◌∙◌}
use Rattle.tsb_cells.specs.Diff.{diff, apply_diff}
use Rattle.tsb_cells.proofs.DiffLemmas.{apply_diff-diff}
use Rattle.tsb_objects.specs.tsb_plan.Plan.{Plan}
use Rattle.tsb_machine.specs.Laws.{GivesBack, CountsTicks}
use Rattle.tsb_machine.specs.tsb_history.declared.kinds.Kind.{Kind}
use Rattle.tsb_machine.specs.tsb_history.declared.kinds.Kind.TheVariants as kinds
use Rattle.tsb_step.specs.declared.inputs.Input.{Input}
use Rattle.tsb_step.specs.declared.inputs.Input.TheVariants.{Tick, Fault, Reset}
use Rattle.tsb_step.specs.State.{State, start, restarted}
use Rattle.tsb_step.specs.Tick.{next}
use Rattle.tsb_step.specs.Signs.{watched}
use Rattle.tsb_step.specs.Step.{step, kind_of}
use Rattle.tsb_step.specs.Cells.{cells_of, state_in}
use Rattle.tsb_step.specs.Past.{ticks_of, controller}

-- an input moves the tick number by what its kind says
now-step : (s : State) (i : Input) → (step s i).now ≡ s.now + ticks_of (kind_of i)
unfolding step watched
now-step s (Tick row) = go (is_some s.trip)
  where
    go : (b : Bool) → (if b then record s { now = s.now + 1 } else (if b then next s row else watched s (next s row))).now ≡ s.now + 1
    go true = refl
    go false = refl
now-step s (Fault lamp) = go (is_some s.trip)
  where
    go : (b : Bool) → (if b then record s { lamp = lamp } else watched s (record s { lamp = lamp })).now ≡ s.now + 0
    go true = omega arith
    go false = omega arith
now-step s Reset = go (is_some s.trip)
  where
    go : (b : Bool) → (if b then restarted s else s).now ≡ s.now + 0
    go true = omega arith
    go false = omega arith
now-step s i = omega arith

pub ticks-at_most : (k : Kind) → ticks_of k ≤ 1
ticks-at_most kinds.Tick = omega arith
ticks-at_most k = omega arith

pub records_give_back : (s : State) (i : Input) → state_in s.now (cells_of s) ≡ s → length (cells_of s) ≡ length (cells_of (step s i)) →
    GivesBack controller s i
records_give_back s i told same =
    let moved : (step s i).now ≡ s.now + ticks_of (kind_of i) = now-step s i in
    let before : (step s i).now - ticks_of (kind_of i) ≡ s.now = omega (arith, moved) in
    ap (λ (n : ℕ). state_in n (apply_diff (cells_of (step s i)) (diff (cells_of s) (cells_of (step s i))))) before
    ∙ ap (state_in s.now) (apply_diff-diff (cells_of s) (cells_of (step s i)) same)
    ∙ told

pub ticks_are_counted : (plan : Plan) → CountsTicks controller (start plan)
ticks_are_counted plan = record {
  begins = refl;
  on = λ s i. (let moved : (step s i).now ≡ s.now + ticks_of (kind_of i) = now-step s i in omega (arith, moved));
  by_one = λ s i. (let moved : (step s i).now ≡ s.now + ticks_of (kind_of i) = now-step s i in
      let few : ticks_of (kind_of i) ≤ 1 = ticks-at_most (kind_of i) in omega (arith, moved, few));
}
