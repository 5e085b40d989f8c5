-- A run from power-up in which a preempt gives way to a lower one, and mistakes that the law of preempts refuses.
use Rattle.std.proofs.Common.{◌≡◌, ℕ, true, if◌then◌else◌, List, [], ◌∷◌, Option, Some, None, option_map, refl}
use Rattle.tsb_step.specs.tsb_types.Sets.{all_off}
use Rattle.tsb_step.specs.tsb_types.declared.stage.Stage.{Stage}
use Rattle.tsb_step.specs.tsb_types.declared.stage.Stage.TheVariants.{Exit}
use Rattle.tsb_step.specs.tsb_plan.declared.object.Object.TheVariants.{PreemptExitPhase}
use Rattle.tsb_step.specs.tsb_plan.Plan.{Plan, with_values}
use Rattle.tsb_step.specs.tsb_plan.Quad.{quad}
use Rattle.tsb_step.specs.tsb_preempt.Preempts.{requesting}
use Rattle.tsb_step.specs.tsb_preempt.Service.{Service, has_track}
use Rattle.tsb_step.specs.declared.inputs.Input.{Input}
use Rattle.tsb_step.specs.declared.inputs.Input.TheVariants.{Tick, Switch}
use Rattle.tsb_step.specs.State.{State}
use Rattle.tsb_step.specs.Tick.{preempts_given, preempts_read, service}
use Rattle.tsb_step.specs.Runs.{replay, AreTaken}
use Rattle.tsb_step.proofs.Examples.Scenes.{opened, after, preempt, dwelling}

-- ## Preempt 2 is switched on, and preempt 1 after it

abbrev both_switched : List Input
both_switched = Tick all_off ∷ Switch 1 true ∷ Tick all_off ∷ Switch 2 true ∷ []

taken : AreTaken quad both_switched
unfolding opened
taken = ((((tt, refl), refl), refl), refl)

was_2 : option_map (λ (x : Service). x.preempt) (replay quad (Switch 1 true ∷ Tick all_off ∷ Switch 2 true ∷ [])).preempts.service ≡ Some 2
unfolding opened
was_2 = refl

is_1 : option_map (λ (x : Service). x.preempt) (replay quad both_switched).preempts.service ≡ Some 1
unfolding opened
is_1 = refl

-- ## A preempt that any request interrupts

-- preempt 1 is in service, and 2 asks
asks_2 : requesting quad (preempts_given (dwelling 9) (preempt 2)) (preempts_read (dwelling 9)) ≡ Some 2
unfolding opened
asks_2 = refl

serves_1 : service (dwelling 9) (preempt 2) ≡ Some 1
unfolding opened
serves_1 = refl

-- ## A dwell after which no exit comes

-- preempt 1 has exit phases 2 and 6, and has been served
unfoldable leads_back : Plan
leads_back = with_values quad ((PreemptExitPhase, 1, 34) ∷ [])

abbrev served : State
served = record (dwelling 120) { plan = leads_back }

goes_to_exit : option_map (λ (x : Service). x.stage) (after served all_off).preempts.service ≡ Some Exit
unfolding opened leads_back
goes_to_exit = refl

-- a stage after the dwell that is there for a track list, and not for an exit list
abbrev by_track_list : Plan → ℕ → Option Stage
by_track_list plan n = if has_track plan n then Some Exit else None

would_be_over : by_track_list leads_back 1 ≡ None
unfolding opened leads_back
would_be_over = refl
