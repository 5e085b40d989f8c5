use Rattle.std.proofs.Common.{◌∙◌, ap₂, refl, Bool}
use Rattle.tsb_objects.specs.Checked.{checked_plan}
use Rattle.tsb_plan.specs.PlanOf.{plan_of}
use Rattle.tsb_transact.specs.Calls as calls
use Rattle.tsb_transact.specs.Cells.{desk_in}
use Rattle.tsb_step.specs.Step.{verdict}
use Rattle.tsb_bench.specs.Cabinet.{rows_of}
use Rattle.tsb_bench.proofs.InputLemmas.{beside}
use Rattle.tsb_bench.proofs.cabinet.Cabinet.commit_refusal.Goals as goal

pub returns : goal.returns
unfolding verdict checked_plan plan_of
returns c tick =
    c.commit_refusal.ensures
    ∙ ap₂ (λ (serving preempted : Bool). calls.commit_refusal (checked_plan c.args.self.now.plan) c.args.station serving preempted (desk_in (rows_of c.args.self.now).desk))
    (c.is_serving-serving.ensures tick (beside (rows_of c.args.self.now)) c.args.self.now.plan refl) (c.is_preempted-preempted.ensures tick (beside (rows_of c.args.self.now)))
