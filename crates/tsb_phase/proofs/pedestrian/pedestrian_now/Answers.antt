use Rattle.std.proofs.Common.{true, false, sym, ◌∙◌}
use Rattle.tsb_objects.specs.tsb_plan.PlanOf.{plan_of}
use Rattle.tsb_phase.specs.Promises.{given_of}
use Rattle.tsb_phase.specs.Cells.{phase_of}
use Rattle.tsb_phase.proofs.WalkLemmas.{from_dont_walk}
use Rattle.tsb_phase.proofs.pedestrian.pedestrian_now.Goals as goal

pub returns-then-may_walk_again : goal.returns-then-may_walk_again
returns-then-may_walk_again c =
    sym (from_dont_walk (plan_of c.args.plan.now) (given_of c.args.conditions.now) c.args.p (phase_of c.args.now c.args.was.now) true
    (sym c.pedestrian_of-part.ensures ∙ c.in-DontWalk.is) (sym c.if-may_walk_again.true ∙ c.may_walk_again.ensures c.args.now))

pub returns-else-may_walk_again : goal.returns-else-may_walk_again
returns-else-may_walk_again c =
    sym (from_dont_walk (plan_of c.args.plan.now) (given_of c.args.conditions.now) c.args.p (phase_of c.args.now c.args.was.now) false
    (sym c.pedestrian_of-part.ensures ∙ c.in-DontWalk.is) (sym c.if-may_walk_again.false ∙ c.may_walk_again.ensures c.args.now))
