use Rattle.std.proofs.Common.{Bool, not, ◌&&◌, sym, ap, ◌∙◌}
use Rattle.tsb_objects.specs.tsb_types.Intervals.{is_walk}
use Rattle.tsb_objects.specs.tsb_plan.PlanOf.{plan_of}
use Rattle.tsb_phase.specs.Promises.{given_of}
use Rattle.tsb_phase.proofs.WalkLemmas.{row_tells}
use Rattle.tsb_phase.proofs.visit.walks_again.Goals as goal

pub returns-then-not-was : goal.returns-then-not-was
returns-then-not-was c =
    c.is_walk.ensures ∙ ap (λ (b : Bool). not b && is_walk c.args.pedestrian) (sym c.if-not-was.true)
    ∙ row_tells c.args.now (plan_of c.args.plan.now) (given_of c.args.conditions.now) c.args.p c.args.was.now c.args.pedestrian c.requires.part
