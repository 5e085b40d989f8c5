use Rattle.tsb_cells.specs.Timer.{timer_at}
use Rattle.tsb_objects.specs.tsb_plan.PlanOf.{plan_of}
use Rattle.tsb_phase.specs.Promises.{given_of}
use Rattle.tsb_phase.specs.Cells.{phase_of}
use Rattle.tsb_phase.proofs.DueLemmas.{part-clear, not-at-limit}
use Rattle.tsb_phase.proofs.due.due_clearance.Goals as goal

pub returns : goal.returns
returns c = λ t by soon.
    part-clear (plan_of c.args.plan.now) (given_of c.args.conditions.now) c.args.p (phase_of t c.args.was.now) c.requires
    (not-at-limit (timer_at t c.args.was.now.pedestrian_timer) c.clearance_time-time.result _ c.clearance_time-time.ensures (c.until.ensures t by.pedestrian_timer soon))
