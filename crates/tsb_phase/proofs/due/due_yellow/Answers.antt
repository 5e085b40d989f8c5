use Rattle.std.proofs.Common.{arith}
use Rattle.tsb_cells.specs.Timer.{timer_at}
use Rattle.tsb_objects.specs.tsb_plan.PlanOf.{plan_of}
use Rattle.tsb_phase.specs.declared.phase_row.PhaseRow.{PhaseRow}
use Rattle.tsb_phase.proofs.ReadLemmas.{later}
use Rattle.tsb_phase.proofs.DueLemmas.{yellow-still, not-at-limit}
use Rattle.tsb_phase.proofs.due.due_yellow.Goals as goal

pub returns : goal.returns
returns c = λ given now t by after soon reverts.
    let was : PhaseRow = c.args.was.now in
    let begun = by.timer in
    yellow-still (plan_of c.args.plan.now) given c.args.p was now t c.requires (later now t was (omega (arith, after)) by)
    (not-at-limit (timer_at t was.timer) c.yellow_change-change.result _ c.yellow_change-change.ensures.value (c.until.ensures t (omega (arith, begun, after)) soon))
    (not-at-limit (timer_at now was.timer) c.yellow_change-change.result _ c.yellow_change-change.ensures.value (c.until.ensures now begun (omega (arith, after, soon))))
    reverts
