-- States in which the dynamic maximum is held and moves, and mistakes that its law refuses.
use Rattle.std.proofs.Common.{◌≡◌, ℕ, ◌+◌, ◌*◌, min, [], ◌∷◌, Option, Some, None, refl}
use Rattle.tsb_step.specs.tsb_plan.declared.object.Object.TheVariants.{PhaseDynamicMaxLimit, PhaseDynamicMaxStep}
use Rattle.tsb_step.specs.tsb_plan.Plan.{Plan, dynamic_maximum_step, with_values}
use Rattle.tsb_step.specs.tsb_plan.Quad.{quad}
use Rattle.tsb_step.specs.tsb_phase.declared.ending.Ending.TheVariants.{MaxOut}
use Rattle.tsb_step.specs.tsb_phase.DynamicMaximum.{highest_maximum, maximum_in_use, stepped}
use Rattle.tsb_step.specs.declared.inputs.Input.TheVariants.{Pattern}
use Rattle.tsb_step.specs.State.{State}
use Rattle.tsb_step.specs.Step.{step}
use Rattle.tsb_step.proofs.Examples.Scenes.{opened, green, these, all_red, resting}
use Rattle.tsb_laws.specs.RunningMaximum.{maximum_of}

-- ## A running maximum that is used as it was kept

-- the limit of 2 was 90 s, and a commit has made it 40 s
unfoldable dynamic : Plan
dynamic = with_values quad ((PhaseDynamicMaxLimit, 2, 40) ∷ (PhaseDynamicMaxStep, 2, 50) ∷ [])

abbrev with_maximum : ℕ → State
with_maximum n = record resting { plan = dynamic; phases = these (2 ∷ []) (record (green 59) { running_maximum = Some n }) all_red }

is_held_at_400 : maximum_of (with_maximum 900) 2 ≡ 400
unfolding opened dynamic
is_held_at_400 = refl

abbrev as_kept : ℕ → Option ℕ → ℕ
as_kept otherwise None = otherwise
as_kept otherwise (Some n) = n

would_be_900 : as_kept 200 ((with_maximum 900).phases 2).running_maximum ≡ 900
would_be_900 = refl

-- ## One whose step is read in seconds, and not in tenths of them

goes_to_250 : stepped dynamic 2 MaxOut 200 ≡ 250
unfolding opened dynamic
goes_to_250 = refl

abbrev by_seconds : Plan → ℕ → ℕ → ℕ
by_seconds plan p n = min (highest_maximum plan p) (n + 10 * dynamic_maximum_step plan p)

would_go_to_400 : by_seconds dynamic 2 200 ≡ 400
unfolding opened dynamic
would_go_to_400 = refl

-- ## A pattern that begins it anew

stays_300 : maximum_of (step (with_maximum 300) (Pattern 0)) 2 ≡ 300
unfolding opened dynamic
stays_300 = refl

would_be_200 : maximum_in_use dynamic 2 None ≡ 200
unfolding opened dynamic
would_be_200 = refl
