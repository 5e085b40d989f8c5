use Rattle.std.proofs.Common.{◌∙◌, ℕ, ap, sym}
use Rattle.tsb_cells.specs.Timer.{timer_at, has_reached}
use Rattle.tsb_objects.specs.tsb_plan.Plan.{yellow_change}
use Rattle.tsb_objects.specs.tsb_plan.PlanOf.{plan_of}
use Rattle.tsb_overlap.proofs.PartLemmas.{then-part}
use Rattle.tsb_overlap.proofs.arrow.run_on.Goals as goal

pub returns-then-has_lasted : goal.returns-then-has_lasted
returns-then-has_lasted c =
    rw (c.in-Yellow-Some.is-0, c.in-Yellow-Some.is-1)
    (then-part (has_reached (timer_at c.args.now c.args.part.now.timer) (yellow_change (plan_of c.args.plan.now) c.in-Yellow-Some.phase)) c.args.now _ _ c.standing.result
    (sym (c.has_lasted.ensures ∙ ap (λ (time : ℕ). has_reached (timer_at c.args.now c.args.part.now.timer) time) c.yellow_change.ensures.value) ∙ c.if-has_lasted.true)
    (c.standing.ensures c.args.now))
