use Rattle.std.proofs.Common.{sym, ◌∙◌}
use Rattle.tsb_objects.specs.tsb_plan.PlanOf.{plan_of}
use Rattle.tsb_phase.specs.Promises.{given_of}
use Rattle.tsb_phase.specs.Cells.{phase_of}
use Rattle.tsb_phase.proofs.DueLemmas.{part-dont_walk}
use Rattle.tsb_phase.proofs.due.due_pedestrian.Goals as goal

pub returns-else-may_walk_again : goal.returns-else-may_walk_again
returns-else-may_walk_again c = λ t by soon.
    part-dont_walk (plan_of c.args.plan.now) (given_of c.args.conditions.now) c.args.p (phase_of t c.args.was.now)
    (sym c.pedestrian_of.ensures ∙ c.in-DontWalk.is) (sym (c.may_walk_again.ensures t) ∙ c.if-may_walk_again.false)
