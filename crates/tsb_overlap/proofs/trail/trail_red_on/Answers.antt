use Rattle.std.proofs.Common.{◌∙◌, ℕ, ap, sym}
use Rattle.tsb_cells.specs.Timer.{timer_at, has_reached}
use Rattle.tsb_objects.specs.tsb_plan.Parts.{trail_red}
use Rattle.tsb_objects.specs.tsb_plan.PlanOf.{plan_of}
use Rattle.tsb_overlap.proofs.PartLemmas.{then-part}
use Rattle.tsb_overlap.proofs.trail.trail_red_on.Goals as goal

pub returns-then-has_lasted : goal.returns-then-has_lasted
returns-then-has_lasted c =
    then-part (has_reached (timer_at c.args.now c.args.part.now.timer) (trail_red (plan_of c.args.plan.now) c.args.o)) c.args.now _ _ c.standing.result
    (sym (c.has_lasted.ensures ∙ ap (λ (time : ℕ). has_reached (timer_at c.args.now c.args.part.now.timer) time) c.trail_red.ensures) ∙ c.if-has_lasted.true)
    (c.standing.ensures c.args.now)
