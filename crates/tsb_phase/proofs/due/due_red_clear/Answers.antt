use Rattle.std.proofs.Common.{ℕ, arith}
use Rattle.tsb_cells.specs.Timer.{timer_at}
use Rattle.tsb_objects.specs.tsb_plan.PlanOf.{plan_of}
use Rattle.tsb_phase.specs.declared.phase_row.PhaseRow.{PhaseRow}
use Rattle.tsb_phase.specs.Cells.{IsRowBy}
use Rattle.tsb_phase.proofs.ReadLemmas.{later}
use Rattle.tsb_phase.proofs.DueLemmas.{red_clear-still, at-limit}
use Rattle.tsb_phase.proofs.due.due_red_clear.Goals as goal

pub returns : goal.returns
returns c = λ given t after soon reverts.
    let now : ℕ = c.args.now in
    let was : PhaseRow = c.args.was.now in
    let by : IsRowBy now was = c.requires.by in
    red_clear-still (plan_of c.args.plan.now) given c.args.p was now t c.requires.is (later now t was (omega (arith, after)) by)
    (at-limit (timer_at t was.timer) (timer_at now was.timer) c.red_clear-clear.result _ c.red_clear-clear.ensures.value (c.turn.ensures t by.timer (omega (arith, after)) soon))
    reverts
