use Rattle.std.proofs.Common.{◌≡◌, ◌∙◌, ℕ, ap, subst}
use Rattle.tsb_cells.specs.Timer.{timer_at, has_reached}
use Rattle.tsb_objects.specs.tsb_plan.Plan.{yellow_change}
use Rattle.tsb_objects.specs.tsb_plan.PlanOf.{plan_of}
use Rattle.tsb_overlap.proofs.arrow.yellow_due.Goals as goal

pub returns-in-Some : goal.returns-in-Some
returns-in-Some c = λ t p after soon is.
    let same : c.in-Some.phase ≡ p = cc in
    subst (λ (time : ℕ). has_reached (timer_at t c.args.part.now.timer) time ≡ has_reached (timer_at c.args.now c.args.part.now.timer) time)
    (c.yellow_change.ensures.value ∙ ap (yellow_change (plan_of c.args.plan.now)) same) (c.reached_at.ensures t after soon)

pub returns-in-None : goal.returns-in-None
returns-in-None c = λ t p after soon is. absurd cc
