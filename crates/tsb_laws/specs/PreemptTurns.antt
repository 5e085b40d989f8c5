-- Whose turn it is among the preempts: to what one in service gives way, through which stages it goes, and when its
-- service ends. The law here is the contract of a function in src/operation.rt, and proved there.
use Rattle.std.specs.Prelude.{◌≡◌, ℕ, ◌<◌, ◌≤◌, true, false, Some, None, ◌⊎◌}
use Rattle.tsb_step.specs.tsb_types.declared.stage.Stage.{Stage}
use Rattle.tsb_step.specs.tsb_types.declared.stage.Stage.TheVariants.{Track, Dwell, Exit}
use Rattle.tsb_step.specs.tsb_plan.Parts.{is_exit_phase}
use Rattle.tsb_step.specs.tsb_preempt.Service.{Service, has_exit, all_green, begun}
use Rattle.tsb_step.specs.declared.inputs.Input.{Input}
use Rattle.tsb_step.specs.State.{State, interval}
use Rattle.tsb_step.specs.Step.{step}
use Rattle.tsb_step.specs.Laws.{OfEveryRun}
use Rattle.tsb_laws.specs.KeptCalls.{restarts}

-- the place of a stage in a service: track green, dwell, exit
abbrev pub place : Stage → ℕ
place Track = 1
place Dwell = 2
place Exit = 3

-- the same preempt goes on, in the same stage or a later one
pub record GoesOn (x y : Service) : Type 0 where
  pub same : y.preempt ≡ x.preempt
  pub onward : place x.stage ≤ place y.stage

-- a service begins, of a lower preempt, or of the same in its exit
pub record BeginsFor (s : State) (x y : Service) : Type 0 where
  pub anew : y ≡ begun s.plan y.preempt
  pub before : (y.preempt < x.preempt) ⊎ ((y.preempt ≡ x.preempt) × (x.stage ≡ Exit))

-- Where a preempt is in service before an input and one is after it, the service goes on or gives way.
abbrev pub GivesWay : State → Input → Type 0
GivesWay s i = (x y : Service) → s.preempts.service ≡ Some x → (step s i).preempts.service ≡ Some y → GoesOn x y ⊎ BeginsFor s x y

-- Where none is in service after the input, its exit has ended, with all of its exit phases Green, or its dwell, where it
-- has no exit phases; or a controller that had tripped was reset.
abbrev pub EndsFrom : State → Input → Type 0
EndsFrom s i = (x : Service) → s.preempts.service ≡ Some x → (step s i).preempts.service ≡ None →
    ((x.stage ≡ Exit) × (all_green s.plan (interval s) (is_exit_phase s.plan x.preempt) ≡ true))
    ⊎ (((x.stage ≡ Dwell) × (has_exit s.plan x.preempt ≡ false)) ⊎ (restarts s i ≡ true))

-- So it is with each input after every run.
abbrev pub PreemptsGiveWay : Type 0
PreemptsGiveWay = OfEveryRun (λ s. (i : Input) → GivesWay s i)

-- The same holds of each input that ends a service.
abbrev pub ServicesEnd : Type 0
ServicesEnd = OfEveryRun (λ s. (i : Input) → EndsFrom s i)
