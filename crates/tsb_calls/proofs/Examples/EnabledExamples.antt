-- What is not remembered, and what calls nothing, by computing: a phase that is not enabled has neither memories set nor
-- calls, whatever else is given of it, and one without a walk has no pedestrian memory set. In the built-in plan of eight
-- phases, phases 9 to 16 are not enabled, and of phases 1 to 8 only phase 2 has a walk.
--
-- In a plan that breaks no rule no detector or button calls such a phase (K12, K13). The definitions are of every plan.
use Rattle.std.specs.Prelude.{◌≡◌, ◌∷◌, [], true, false, refl}
use Rattle.tsb_objects.specs.tsb_types.Lists.{run_from, among}
use Rattle.tsb_objects.specs.tsb_plan.declared.object.Object.TheVariants.{PhaseEnabled, PhaseMinRecall, PhasePedRecall, PhaseWalk, VehicleDetectorCallPhase, PedestrianDetectorCallPhase}
use Rattle.tsb_objects.specs.tsb_plan.Plan.{Plan, with_value, with_values}
use Rattle.tsb_objects.specs.tsb_plan.Quad.{quad}
use Rattle.tsb_calls.specs.Memories.{Memories, Given, at_power_up, has_output, has_button, vehicle_memory, pedestrian_memory}
use Rattle.tsb_calls.specs.Callable.{has_pedestrian_call, is_callable}
use Rattle.tsb_calls.proofs.Examples.Examples.{resting, rising, callables}

-- ## Phase 9 is not enabled. A detector and a button call it, it has a walk, and both of its recalls are on

abbrev pub nine : Plan
nine = with_values quad (
    (VehicleDetectorCallPhase, 9, 9) ∷ (PedestrianDetectorCallPhase, 1, 9) ∷ (PhaseWalk, 9, 4)
    ∷ (PhaseMinRecall, 9, 1) ∷ (PhasePedRecall, 9, 1) ∷ [])

-- detector 9 rises, and button 1 is pressed
abbrev pub nine_calls : Given
nine_calls = record (rising (9 ∷ []) (resting (2 ∷ 6 ∷ []))) { button = λ d. among d (1 ∷ []) }

locks_not_9 : vehicle_memory nine nine_calls at_power_up 9 ≡ false
unfolding quad run_from has_output vehicle_memory
locks_not_9 = refl

presses_not_9 : pedestrian_memory nine nine_calls at_power_up 9 ≡ false
unfolding quad run_from has_button pedestrian_memory
presses_not_9 = refl

walks_not_9 : has_pedestrian_call nine nine_calls at_power_up 9 ≡ false
unfolding quad run_from
walks_not_9 = refl

calls_not_9 : callables nine nine_calls at_power_up ≡ []
unfolding quad run_from has_output vehicle_memory pedestrian_memory has_button is_callable
calls_not_9 = refl

-- enabled, it has all of them
abbrev pub nine_on : Plan
nine_on = with_value nine PhaseEnabled 9 1

locks_9 : vehicle_memory nine_on nine_calls at_power_up 9 ≡ true
unfolding quad run_from has_output vehicle_memory
locks_9 = refl

presses_9 : pedestrian_memory nine_on nine_calls at_power_up 9 ≡ true
unfolding quad run_from has_button pedestrian_memory
presses_9 = refl

walks_9 : has_pedestrian_call nine_on nine_calls at_power_up 9 ≡ true
unfolding quad run_from
walks_9 = refl

calls_9 : callables nine_on nine_calls at_power_up ≡ 9 ∷ []
unfolding quad run_from has_output vehicle_memory pedestrian_memory has_button is_callable
calls_9 = refl

-- ## Phase 3 is enabled and has no walk: its button is not remembered

no_walk : pedestrian_memory (with_value quad PedestrianDetectorCallPhase 1 3) nine_calls at_power_up 3 ≡ false
unfolding quad run_from has_button pedestrian_memory
no_walk = refl

-- ## Phase 3 was turned off by a commit: it keeps its memories, and they call nothing

abbrev pub three_off : Plan
three_off = with_values quad ((PhaseEnabled, 3, 0) ∷ (PhaseWalk, 3, 4) ∷ [])

-- phase 3 has both memories
abbrev pub both : Memories
both = record at_power_up { vehicle = λ p. among p (3 ∷ []); pedestrian = λ p. among p (3 ∷ []) }

stays_vehicle : vehicle_memory three_off (resting (2 ∷ 6 ∷ [])) both 3 ≡ true
unfolding quad run_from has_output vehicle_memory
stays_vehicle = refl

stays_pedestrian : pedestrian_memory three_off (resting (2 ∷ 6 ∷ [])) both 3 ≡ true
unfolding quad run_from has_button pedestrian_memory
stays_pedestrian = refl

calls_nothing : callables three_off (resting (2 ∷ 6 ∷ [])) both ≡ []
unfolding quad run_from has_output vehicle_memory pedestrian_memory has_button is_callable
calls_nothing = refl

walks_nothing : has_pedestrian_call three_off (resting []) both 3 ≡ false
unfolding quad run_from
walks_nothing = refl
