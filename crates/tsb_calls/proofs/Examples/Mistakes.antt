-- One-line mistakes, each with an example in which it differs from the definition. In the built-in plan of eight phases
-- detector d calls phase d.
use Rattle.std.specs.Prelude.{◌≡◌, ℕ, ◌+◌, ◌==◌, Bool, true, false, not, ◌&&◌, ◌||◌, if◌then◌else◌, [], ◌∷◌, refl}
use Rattle.tsb_objects.specs.tsb_types.declared.interval.PedestrianInterval.TheVariants.{PedestrianClear}
use Rattle.tsb_objects.specs.tsb_types.Flow.{gives_walk}
use Rattle.tsb_objects.specs.tsb_types.Intervals.{is_dont_walk}
use Rattle.tsb_objects.specs.tsb_types.Lists.{run_from, some_passes}
use Rattle.tsb_objects.specs.tsb_plan.declared.object.Object.TheVariants.{PhaseNonLock}
use Rattle.tsb_objects.specs.tsb_plan.Plan.{Plan, phases, is_enabled, is_non_locking, has_soft_recall, ring_of, side_of, is_concurrent, with_value}
use Rattle.tsb_objects.specs.tsb_plan.Quad.{quad}
use Rattle.tsb_objects.specs.tsb_rules.Rules.{serves_pedestrians}
use Rattle.tsb_calls.specs.Memories.{Memories, Given, at_power_up, was_green, has_output, actuations, has_button, locks_call, is_called_back, vehicle_memory, pedestrian_memory, counted, as_set}
use Rattle.tsb_calls.specs.Callable.{is_called, is_free, is_callable_otherwise, is_callable, has_conflict}
use Rattle.tsb_calls.specs.Settled.{Done, is_cut_short, vehicle_after, pedestrian_after}
use Rattle.tsb_calls.proofs.Examples.Examples.{resting, rising, all_those, those, soft}
use Rattle.tsb_calls.proofs.Examples.MemoryExamples.{pressed, one_is_non_locking, service_ends, moved, walking}

-- ## A green that is cut short sets vehicle memory of a locking phase alone

abbrev pub vehicle_after_if_locking : Plan → Done → (ℕ → Bool) → ℕ → Bool
vehicle_after_if_locking plan done memory p =
    if done.starts p then false else (memory p || (not (is_non_locking plan p) && is_cut_short done p))

abbrev pub cut_short : Done
cut_short = moved [] (2 ∷ []) false

calls_again : vehicle_after cut_short (λ p. false) 2 ≡ true
calls_again = refl

calls_not_again : vehicle_after_if_locking (with_value quad PhaseNonLock 2 1) cut_short (λ p. false) 2 ≡ false
unfolding quad
calls_not_again = refl

-- ## The end of a preempt's service calls locking phases alone

abbrev pub vehicle_memory_if_locking : Plan → Given → Memories → ℕ → Bool
vehicle_memory_if_locking plan given w p =
    w.vehicle p || (is_enabled plan p
    && (not (is_non_locking plan p) && (locks_call plan given p || is_called_back given p)))

called_back : vehicle_memory one_is_non_locking service_ends at_power_up 1 ≡ true
unfolding quad run_from has_output vehicle_memory
called_back = refl

called_back_not : vehicle_memory_if_locking one_is_non_locking service_ends at_power_up 1 ≡ false
unfolding quad run_from has_output
called_back_not = refl

-- ## Actuations are counted in green too

abbrev pub counted_always : Plan → Given → Memories → ℕ → ℕ
counted_always plan given w p = w.count p + actuations plan given p

in_green : counted quad (rising (2 ∷ []) (resting (2 ∷ 6 ∷ []))) at_power_up 2 ≡ 0
unfolding quad run_from actuations counted
in_green = refl

in_green_too : counted_always quad (rising (2 ∷ []) (resting (2 ∷ 6 ∷ []))) at_power_up 2 ≡ 1
unfolding quad run_from actuations
in_green_too = refl

-- ## A count passes 255

abbrev pub counted_on : Plan → Given → Memories → ℕ → ℕ
counted_on plan given w p = if was_green given p then w.count p else w.count p + actuations plan given p

abbrev pub full : Memories
full = record at_power_up { count = λ p. 255 }

stays : counted quad (rising (3 ∷ []) (resting [])) full 3 ≡ 255
unfolding quad run_from actuations counted
stays = refl

passes : counted_on quad (rising (3 ∷ []) (resting [])) full 3 ≡ 256
unfolding quad run_from actuations
passes = refl

-- ## Pedestrian memory is set in DontWalk alone

abbrev pub pedestrian_memory_in_dont_walk : Plan → Given → Memories → ℕ → Bool
pedestrian_memory_in_dont_walk plan given w p =
    w.pedestrian p || (serves_pedestrians plan p && (has_button plan given p && is_dont_walk (given.pedestrian_part p)))

in_clearance : pedestrian_memory quad (pressed PedestrianClear) at_power_up 2 ≡ true
unfolding quad run_from has_button pedestrian_memory
in_clearance = refl

in_clearance_not : pedestrian_memory_in_dont_walk quad (pressed PedestrianClear) at_power_up 2 ≡ false
unfolding quad run_from has_button
in_clearance_not = refl

-- ## Pedestrian memory falls with the start of a green alone, and stays where a walk begins within one

abbrev pub pedestrian_after_start : Done → (ℕ → Bool) → (ℕ → Bool) → ℕ → Bool
pedestrian_after_start done pedestrian_call memory p =
    memory p && not (done.starts p && gives_walk (pedestrian_call p) done.service)

served_by_second_walk : pedestrian_after (walking (2 ∷ [])) (λ p. true) (λ p. true) 2 ≡ false
served_by_second_walk = refl

would_walk_again : pedestrian_after_start (walking (2 ∷ [])) (λ p. true) (λ p. true) 2 ≡ true
would_walk_again = refl

-- ## Soft recall waits only for callable phases of its own side, or of its own ring

-- `soft` has soft recall on phases 1, 2, 4 and 7, and detector 8 comes on while 2 and 6 are Green
abbrev pub eight_calls : Given
eight_calls = rising (8 ∷ []) (resting (2 ∷ 6 ∷ []))

abbrev pub is_callable_by : (Plan → ℕ → ℕ) → Plan → Given → Memories → ℕ → Bool
is_callable_by group plan given m p =
    is_callable_otherwise plan given m p || (is_free plan given p && (has_soft_recall plan p
    && not (some_passes (λ q. is_callable_otherwise plan given m q && group plan q == group plan p) (phases plan))))

of_all : all_those (is_callable soft eight_calls (as_set soft eight_calls at_power_up)) ≡ 8 ∷ []
unfolding quad run_from has_output vehicle_memory pedestrian_memory has_button is_callable
of_all = refl

of_its_side : all_those (is_callable_by side_of soft eight_calls (as_set soft eight_calls at_power_up)) ≡ 1 ∷ 8 ∷ []
unfolding quad run_from has_output vehicle_memory pedestrian_memory has_button
of_its_side = refl

of_its_ring : all_those (is_callable_by ring_of soft eight_calls (as_set soft eight_calls at_power_up)) ≡ 1 ∷ 4 ∷ 8 ∷ []
unfolding quad run_from has_output vehicle_memory pedestrian_memory has_button
of_its_ring = refl

-- ## A phase that is called makes a conflict, callable or not

abbrev pub has_conflict_with_called : Plan → Given → Memories → ℕ → Bool
has_conflict_with_called plan given m p =
    some_passes (λ q. is_called plan given m q && (not (q == p) && not (is_concurrent plan p q))) (phases plan)

-- phases 2 and 6 rest in green, and have minimum recall
at_rest : those (has_conflict quad (resting (2 ∷ 6 ∷ [])) at_power_up) ≡ []
unfolding quad run_from has_output is_callable has_conflict
at_rest = refl

at_rest_not : those (has_conflict_with_called quad (resting (2 ∷ 6 ∷ [])) at_power_up) ≡ 1 ∷ 3 ∷ 4 ∷ 5 ∷ 7 ∷ 8 ∷ []
unfolding quad run_from has_output
at_rest_not = refl
