use Rattle.std.proofs.Common.{◌∙◌, ◌&&◌, ◌||◌, ℕ, Bool, ap, ap₂, is_some}
use Rattle.tsb_step.specs.tsb_types.Lists.{run_from}
use Rattle.tsb_step.specs.tsb_types.Sets.{has}
use Rattle.tsb_step.proofs.tsb_types.FirstLemmas.{first-any, first-same}
use Rattle.tsb_step.specs.tsb_plan.Parts.{is_included}
use Rattle.tsb_step.specs.tsb_plan.Plan.{Plan}
use Rattle.tsb_step.specs.Events.{is_by}
use Rattle.tsb_objects.specs.Checked.{checked_plan}
use Rattle.tsb_controller.proofs.seen.includes_one.Goals as goal

pub returns : goal.returns
returns c =
    let test : ℕ → Bool = λ p. is_by (checked_plan c.args.plan.now) c.args.overlap p && has c.args.phases p in
    c.is_some.ensures
    ∙ ap is_some (c.first.ensures.found ∙ first-same (has c.intersection.result) test (run_from 1 16)
    (λ p. c.intersection.ensures p ∙ ap (λ (b : Bool). b && has c.args.phases p)
    (c.union-by.ensures p
    ∙ ap₂ (λ (a b : Bool). a || b)
    (c.included_phases-included.ensures p ∙ ap (λ (plan : Plan). is_included plan c.args.overlap p) c.plan.ensures.plan) (c.turn_of.ensures p))))
    ∙ first-any test (run_from 1 16)
