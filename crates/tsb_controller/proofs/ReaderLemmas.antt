-- What the rows have of the rings, in the words of the step.
use Rattle.std.proofs.Common.{◌≡◌, ℕ, Bool, ◌||◌, Option, Some, None, is_some, refl, sym, ap, ap₂, ◌∙◌, arith}
use Rattle.std.specs.List.{list_any}
use Rattle.tsb_step.specs.tsb_types.declared.flow.Intervals.{Intervals}
use Rattle.tsb_step.specs.tsb_types.Flow.{interval_of}
use Rattle.tsb_step.specs.tsb_types.Intervals.{in_service}
use Rattle.tsb_step.specs.tsb_types.Lists.{run_from}
use Rattle.tsb_step.proofs.tsb_types.ClipLemmas.{any-agree}
use Rattle.tsb_step.specs.tsb_plan.Plan.{Plan, phases}
use Rattle.tsb_step.specs.tsb_plan.PlanOf.{plan_of}
use Rattle.tsb_objects.specs.declared.checked.Checked.{Checked}
use Rattle.tsb_objects.specs.Checked.{checked_plan}
use Rattle.tsb_phase.specs.Promises.{TellsIntervals}
use Rattle.tsb_ring.specs.Promises.{TellsCommitment, TellsCrossing}
use Rattle.tsb_preempt.specs.Promises.{stage_of}
use Rattle.tsb_preempt.specs.Service.{Service}
use Rattle.tsb_step.specs.Cells.{clock_at}
use Rattle.tsb_step.specs.Signs.{commitment}
use Rattle.tsb_step.specs.State.{State, interval}
use Rattle.tsb_controller.specs.Promises.{TellsServing}
use Rattle.tsb_controller.specs.Rows.{Rows, Beside, state_of}

-- the phases in service, by what phase timing gives of all phases
pub service-told : (rows : Rows) (i : Intervals) → TellsIntervals rows.phases i → (now : ℕ) (b : Beside) (checked : Checked) → b.plan ≡ checked_plan checked →
    list_any (λ p. in_service (interval_of i p)) (run_from 1 16) ≡ list_any (λ p. in_service (interval (state_of now b rows) p)) (phases b.plan)
unfolding checked_plan plan_of
service-told rows i told now b checked same =
    any-agree 16 (λ p. in_service (interval_of i p)) (λ p. in_service (interval (state_of now b rows) p)) (omega arith)
    (λ p from to. ap in_service (told (clock_at now b.trip) p from to))
    ∙ ap (λ (plan : Plan). list_any (λ p. in_service (interval (state_of now b rows) p)) (phases plan)) (sym same)

pub serving-told : (rows : Rows) (i : Intervals) (one two crossing : Option ℕ) →
    TellsIntervals rows.phases i → TellsCommitment rows.rings 1 one → TellsCommitment rows.rings 2 two → TellsCrossing rows.rings crossing →
    TellsServing rows ((list_any (λ p. in_service (interval_of i p)) (run_from 1 16) || (is_some one || is_some two)) || is_some crossing)
serving-told rows i one two crossing told first second third now b checked same =
    let s : State = state_of now b rows in
    ap₂ (λ (x : Bool) (o : Option ℕ). (x || (is_some o || is_some two)) || is_some crossing) (service-told rows i told now b checked same) first
    ∙ ap₂ (λ (o p : Option ℕ). (list_any (λ q. in_service (interval s q)) (phases b.plan) || (is_some (commitment s 1) || is_some o)) || is_some p) second third

-- a preempt is in service where it has a stage
pub staged : (o : Option Service) → is_some (stage_of o) ≡ is_some o
staged None = refl
staged (Some x) = refl
