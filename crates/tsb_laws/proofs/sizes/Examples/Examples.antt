-- What a bench of 16 vehicle detectors, 8 buttons, 4 overlaps and 4 preempts shows, and what that of all of them does on
-- the same plan, by computing. Mistakes: a plan that says what detector 17 calls, and a value that is set for it.
use Rattle.std.specs.Prelude.{◌≡◌, true, List, [], ◌∷◌, Some, None, refl}
use Rattle.tsb_step.specs.tsb_types.declared.lamp.Aspect.TheVariants.{Green}
use Rattle.tsb_step.specs.tsb_types.declared.refusal.Refusal.TheVariants.{NoSuchObject}
use Rattle.tsb_step.specs.tsb_types.declared.row.Row.{Row}
use Rattle.tsb_step.specs.tsb_types.Sets.{all_off, set_of_detectors}
use Rattle.tsb_step.specs.tsb_plan.declared.object.Object.TheVariants.{VehicleDetectorCallPhase, VehicleDetectorDelay}
use Rattle.tsb_step.specs.tsb_plan.Plan.{Plan, narrow_counts, with_value}
use Rattle.tsb_step.specs.tsb_plan.Quad.{quad}
use Rattle.tsb_step.specs.tsb_rules.Rules.{first_broken}
use Rattle.tsb_step.specs.declared.inputs.Input.{Input}
use Rattle.tsb_step.specs.declared.inputs.Input.TheVariants.{Tick, Switch, Begin, Set}
use Rattle.tsb_step.specs.Signs.{display}
use Rattle.tsb_step.specs.Step.{verdict}
use Rattle.tsb_step.specs.Runs.{replay}
use Rattle.tsb_laws.specs.Sizes.{full}
use Rattle.tsb_laws.proofs.versions.Examples.Examples.{opened}

unfoldable small : Plan
unfolding opened
small = record quad { counts = narrow_counts }

-- both break no rule
small_is_right : first_broken small ≡ None
unfolding opened small
small_is_right = refl

full_is_right : first_broken (full small) ≡ None
unfolding opened small
full_is_right = refl

-- preempt 1 is switched on, and wants 3 and 8
abbrev preempted : List Input
preempted = Tick all_off ∷ Tick all_off ∷ Switch 1 true ∷ []

small_shows : (display (replay small preempted)).vehicle 3 ≡ Green
unfolding opened small
small_shows = refl

full_shows : (display (replay (full small) preempted)).vehicle 3 ≡ Green
unfolding opened small
full_shows = refl

-- ## A value that the smaller one has no place for

abbrev set_17 : Input
set_17 = Set 1 (record { object = VehicleDetectorDelay; index = 17 }) 1

is_refused : verdict (replay small (Begin 1 ∷ [])) set_17 ≡ Some NoSuchObject
unfolding opened small
is_refused = refl

is_taken : verdict (replay (full small) (Begin 1 ∷ [])) set_17 ≡ None
unfolding opened small
is_taken = refl

-- ## A plan that gives something where it has no place

unfoldable small_17 : Plan
unfolding opened small
small_17 = with_value small VehicleDetectorCallPhase 17 4

abbrev row_17 : Row
row_17 = record all_off { vehicles = set_of_detectors 65536 }

-- detector 17 counts a vehicle of phase 4 in the larger bench alone
counts_none : (replay small_17 (Tick row_17 ∷ [])).memories.count 4 ≡ 0
unfolding opened small small_17
counts_none = refl

counts_one : (replay (full small_17) (Tick row_17 ∷ [])).memories.count 4 ≡ 1
unfolding opened small small_17
counts_one = refl
