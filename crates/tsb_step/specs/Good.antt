-- What every run keeps: of the plan in effect and the edits at the desk, of the rings and the heads, of a preempt in
-- service.
use Rattle.std.specs.Prelude.{◌≡◌, ℕ, ◌≤◌, List, [], ◌∷◌, Some, None, true}
use Rattle.tsb_objects.specs.tsb_plan.Plan.{Plan}
use Rattle.tsb_ring.specs.Laws.{IsSound}
use Rattle.tsb_preempt.specs.Service.{Service}
use Rattle.tsb_transact.specs.declared.desk_state.DeskState.TheVariants.{Done}
use Rattle.tsb_transact.specs.declared.edit.Edit.{Edit}
use Rattle.tsb_step.specs.State.{State, interval}
use Rattle.tsb_step.specs.Tables.{place_refusal}
use Rattle.tsb_step.specs.Step.{found}
use Rattle.tsb_step.specs.Laws.{IsConsistent, WalksBesideGreen, is_preempt_of, has_stage}

-- each edit is one that the plan takes
abbrev pub AreFit : Plan → List Edit → Type 0
AreFit plan [] = Unit {0}
AreFit plan (e ∷ es) = (place_refusal plan e.id e.value ≡ None) × AreFit plan es

-- a pattern has a number of 1 to 16
pub record IsPatternNumber (n : ℕ) : Type 0 where
  pub from_one : 1 ≤ n
  pub within : n ≤ 16

-- the preempt in service is one of the plan's, and the list of its stage is not empty
pub record IsInStage (plan : Plan) (x : Service) : Type 0 where
  pub preempt : is_preempt_of plan x.preempt ≡ true
  pub some : has_stage plan x.preempt x.stage ≡ true

-- what holds of the state after every run; the laws of runs are proved from it
pub record IsGood (s : State) : Type 0 where
  pub plan : IsConsistent s.plan
  -- in Done the plan with the edits breaks no rule
  pub fit : AreFit s.plan s.desk.edits
  pub done : s.desk.state ≡ Done → found s.plan s.desk ≡ None
  pub pattern : (n : ℕ) → s.pattern ≡ Some n → IsPatternNumber n
  -- its local counter has been coming into step since a tick that was
  pub since : s.correction.since ≤ s.now
  pub rings : IsSound s.plan (interval s) s.rings
  pub walks : WalksBesideGreen s
  pub service : (x : Service) → s.preempts.service ≡ Some x → IsInStage s.plan x
