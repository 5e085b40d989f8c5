-- A bench of fewer detectors, overlaps and preempts than a plan in memory has, and one of all of them, as statements.
-- With one plan, and whatever inputs but values that the smaller one has no place for, both do the same. Plan texts of
-- versions 1 and 2 have fewer.
--
-- All are proved, each as the contract of a function that does nothing (src/sizes.rt).
use Rattle.std.specs.Prelude.{◌≡◌, ◌↔◌, ℕ, ◌≤◌, true, false, List, [], ◌∷◌}
use Rattle.tsb_step.specs.tsb_types.declared.limits.TheConstants.{VEHICLE_DETECTORS, PEDESTRIAN_DETECTORS, OVERLAPS, PREEMPTS}
use Rattle.tsb_step.specs.tsb_plan.declared.object.Object.{Object}
use Rattle.tsb_step.specs.tsb_plan.Plan.{Plan, Counts, all_counts}
use Rattle.tsb_step.specs.tsb_rules.Rules.{first_broken}
use Rattle.tsb_step.specs.declared.inputs.Input.{Input}
use Rattle.tsb_step.specs.declared.inputs.Input.TheVariants.{Set}
use Rattle.tsb_step.specs.State.{State}
use Rattle.tsb_step.specs.Runs.{replay, AreTaken}
use Rattle.tsb_step.specs.Signs.{display, field}
use Rattle.tsb_step.specs.Step.{verdict}
use Rattle.tsb_step.specs.Tables.{has_place}

-- ## Plans and states

-- as many as a plan in memory has, or fewer
pub record AreFewer (counts : Counts) : Type 0 where
  pub vehicle_detectors : counts.vehicle_detectors ≤ VEHICLE_DETECTORS
  pub pedestrian_detectors : counts.pedestrian_detectors ≤ PEDESTRIAN_DETECTORS
  pub overlaps : counts.overlaps ≤ OVERLAPS
  pub preempts : counts.preempts ≤ PREEMPTS

-- a plan of fewer, which gives nothing where it has no place
pub record IsOfFewer (plan : Plan) : Type 0 where
  pub fewer : AreFewer plan.counts
  pub placed : (o : Object) (i : ℕ) → has_place plan o i ≡ false → plan.value o i ≡ 0

-- the plan that says the same, with all of them
abbrev pub full : Plan → Plan
full plan = record plan { counts = all_counts }

-- the state on it
abbrev pub full_state : State → State
full_state s = record s { plan = full s.plan }

-- ## Inputs

-- a value that a station sets is one that the plan has a place for; every other input may be any
abbrev pub IsInputOf : Plan → Input → Type 0
IsInputOf plan (Set station id v) = has_place plan id.object id.index ≡ true
IsInputOf plan i = Unit {0}

-- each of a list
abbrev pub AreInputsOf : Plan → List Input → Type 0
AreInputsOf plan [] = Unit {0}
AreInputsOf plan (i ∷ is) = IsInputOf plan i × AreInputsOf plan is

-- ## Laws

-- Both plans break the same rule first, or none.
abbrev pub SizesBreakTheSameRule : Type 0
SizesBreakTheSameRule = (plan : Plan) → IsOfFewer plan → first_broken (full plan) ≡ first_broken plan

-- what is said of both benches after any list of such inputs
abbrev pub OfBothSizes : (Plan → List Input → Type 0) → Type 0
OfBothSizes fact = (plan : Plan) (is : List Input) → IsOfFewer plan → AreInputsOf plan is → fact plan is

-- They are in the same state, except for the numbers of what there is.
abbrev pub SizesAgree : Type 0
SizesAgree = OfBothSizes (λ plan is. replay (full plan) is ≡ full_state (replay plan is))

-- All heads show the same, those of overlaps too, and the field has the same.
abbrev pub SizesShowTheSame : Type 0
SizesShowTheSame = OfBothSizes (λ plan is. (display (replay (full plan) is) ≡ display (replay plan is)) × (field (replay (full plan) is) ≡ field (replay plan is)))

-- An input that comes next is refused in both for one cause, or in neither.
abbrev pub SizesRefuseTheSame : Type 0
SizesRefuseTheSame = OfBothSizes (λ plan is. (i : Input) → IsInputOf plan i →
    verdict (replay (full plan) is) i ≡ verdict (replay plan is) i)

-- So one takes all inputs where the other does.
abbrev pub SizesTakeTheSame : Type 0
SizesTakeTheSame = OfBothSizes (λ plan is. AreTaken plan is ↔ AreTaken (full plan) is)
