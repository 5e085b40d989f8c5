use Rattle.std.proofs.Common.{◌+◌, ◌-◌}
use Rattle.tsb_objects.specs.tsb_plan.PlanOf.{plan_of}
use Rattle.tsb_phase.proofs.DueLemmas.{gap-stays, reduced-for-all}
use Rattle.tsb_phase.proofs.due.is_falling.Goals as goal

pub returns-then-cell-ne0-clause-rests : goal.returns-then-cell-ne0-clause-rests
returns-then-cell-ne0-clause-rests c = λ rests t after.
    gap-stays (plan_of c.args.plan.now) c.args.p c.args.now t c.args.cell after
    (λ some. reduced-for-all (c.args.now + 1 - c.args.cell) c.time_to_reduce.result _ c.time_to_reduce.ensures.value rests)
