-- Stretches of a run: the inputs `later` that came after those of `is`, the newest first as in every run, so that the
-- whole run is `later ++ is`. What has held since a moment, and which time was due as it ended.
use Rattle.std.specs.Prelude.{◌≡◌, ◌≢◌, ℕ, Bool, true, not, ◌&&◌, if◌then◌else◌, List, [], ◌∷◌, ◌++◌, None, max}
use Rattle.tsb_step.specs.tsb_types.declared.interval.Interval.TheVariants.{Green}
use Rattle.tsb_step.specs.tsb_types.declared.row.Row.{Row}
use Rattle.std.specs.List.{list_any}
use Rattle.tsb_step.specs.tsb_types.Lists.{run_from}
use Rattle.tsb_step.specs.tsb_plan.Parts.{trails}
use Rattle.tsb_step.specs.tsb_plan.Plan.{Plan}
use Rattle.tsb_step.specs.declared.inputs.Input.{Input}
use Rattle.tsb_step.specs.declared.inputs.Input.TheVariants.{Tick}
use Rattle.tsb_step.specs.State.{State, interval}
use Rattle.tsb_step.specs.Signs.{is_choosing}
use Rattle.tsb_step.specs.Runs.{replay}

-- the controller had not tripped after the inputs `is`, nor after any of those that came later
abbrev pub IsUntripped : Plan → List Input → List Input → Type 0
IsUntripped plan is [] = (replay plan is).trip ≡ None
IsUntripped plan is (i ∷ later) = IsUntripped plan is later × ((replay plan (i ∷ (later ++ is))).trip ≡ None)

-- a test held after the inputs `is`, and after each of those that came later
abbrev pub has_held_since : (State → Bool) → Plan → List Input → List Input → Bool
has_held_since test plan is [] = test (replay plan is)
has_held_since test plan is (i ∷ later) = test (replay plan (i ∷ (later ++ is))) && has_held_since test plan is later

-- no preempt that chooses anew is in service after the inputs `is`, nor after any of those that came later
abbrev pub NoneChooses : Plan → List Input → List Input → Type 0
NoneChooses plan is later = has_held_since (λ s. not (is_choosing s)) plan is later ≡ true

-- no overlap of the plan trails: so none holds a phase in clearance
abbrev pub has_no_trails : Plan → Bool
has_no_trails plan = not (list_any (trails plan) (run_from 1 plan.counts.overlaps))

-- the same of the plan in effect after the inputs `is`, and after each of those that came later
abbrev pub NoneTrails : Plan → List Input → List Input → Type 0
NoneTrails plan is later = has_held_since (λ s. has_no_trails s.plan) plan is later ≡ true

-- the time that is due of what has held since the inputs `is`: as it is for the input in which it first ends, by the
-- state that this input finds; for the newest input where it has not ended before
abbrev pub due : (State → Bool) → (State → Input → ℕ) → Plan → List Input → List Input → ℕ
due test time plan is [] = 0
due test time plan is (i ∷ later) =
    if has_held_since test plan is later then time (replay plan (later ++ is)) i else due test time plan is later

-- the largest that a time of the plan has been: by the plans in effect after the inputs `is` and after each of those
-- that came later. Where no commit came between that is the time in the one plan
abbrev pub largest : (Plan → ℕ) → Plan → List Input → List Input → ℕ
largest time plan is [] = time (replay plan is).plan
largest time plan is (i ∷ later) = max (time (replay plan (i ∷ (later ++ is))).plan) (largest time plan is later)

-- the tick `row` after the inputs `is` ends the green of p
pub record EndsGreen (plan : Plan) (is : List Input) (row : Row) (p : ℕ) : Type 0 where
  pub was_green : interval (replay plan is) p ≡ Green
  pub ends : interval (replay plan (Tick row ∷ is)) p ≢ Green

-- the tick `row` after the inputs `is` starts p
pub record StartsGreen (plan : Plan) (is : List Input) (row : Row) (p : ℕ) : Type 0 where
  pub was_not : interval (replay plan is) p ≢ Green
  pub starts : interval (replay plan (Tick row ∷ is)) p ≡ Green
