use Rattle.std.proofs.Common.{sym, ◌∙◌}
use Rattle.tsb_cells.specs.Timer.{timer_at}
use Rattle.tsb_objects.specs.tsb_plan.PlanOf.{plan_of}
use Rattle.tsb_phase.specs.Promises.{given_of}
use Rattle.tsb_phase.specs.Cells.{phase_of}
use Rattle.tsb_phase.proofs.DueLemmas.{part-rests, part-walk, not-at-limit}
use Rattle.tsb_phase.proofs.due.due_walk.Goals as goal

pub returns-then-is_resting_in_walk : goal.returns-then-is_resting_in_walk
returns-then-is_resting_in_walk c = λ t by soon.
    part-rests (plan_of c.args.plan.now) (given_of c.args.conditions.now) c.args.p (phase_of t c.args.was.now) c.requires
    (sym c.is_resting_in_walk.ensures ∙ c.if-is_resting_in_walk.true)

pub returns : goal.returns
returns c = λ t by soon.
    part-walk (plan_of c.args.plan.now) (given_of c.args.conditions.now) c.args.p (phase_of t c.args.was.now) c.requires
    (not-at-limit (timer_at t c.args.was.now.pedestrian_timer) c.walk_time-time.result _ c.walk_time-time.ensures (c.until.ensures t by.pedestrian_timer soon))
