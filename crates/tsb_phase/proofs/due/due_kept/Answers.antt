use Rattle.std.proofs.Common.{Option, ℕ, ◌∙◌, ap, arith}
use Rattle.tsb_cells.specs.Timer.{timer_at}
use Rattle.tsb_objects.specs.tsb_plan.Plan.{Plan}
use Rattle.tsb_objects.specs.tsb_plan.PlanOf.{plan_of}
use Rattle.tsb_phase.specs.declared.phase_row.PhaseRow.{PhaseRow}
use Rattle.tsb_phase.specs.Green.{acting_maximum}
use Rattle.tsb_phase.specs.Phase.{Given}
use Rattle.tsb_phase.specs.Promises.{given_of}
use Rattle.tsb_phase.specs.Cells.{IsRowBy}
use Rattle.tsb_phase.proofs.ReadLemmas.{later}
use Rattle.tsb_phase.proofs.DueLemmas.{green-still, at-limit, at-some-limit}
use Rattle.tsb_phase.proofs.due.due_kept.Goals as goal

pub returns : goal.returns
returns c = λ t after soon reverts.
    let now : ℕ = c.args.now in
    let was : PhaseRow = c.args.was.now in
    let plan : Plan = plan_of c.args.plan.now in
    let given : Given = given_of c.args.conditions.now in
    let by : IsRowBy now was = c.requires.by in
    green-still plan given c.args.p was now t c.requires.is (later now t was (omega (arith, after)) by) c.requires.kept
    (c.due_pedestrian-part.ensures t (later now t was (omega (arith, after)) by) (omega (arith, soon)))
    (c.due_pedestrian-part.ensures now by (omega (arith, after, soon)))
    (c.due_initial-initial.ensures.least t (omega (arith, after)) (omega (arith, soon)))
    (c.due_initial-initial.ensures.initial t (omega (arith, after)) (omega (arith, soon)))
    (c.turn_gap-gap.ensures t (omega (arith, after)) (omega (arith, soon)))
    (at-limit (timer_at t was.conflict) (timer_at now was.conflict) c.time_before_reduction-time.result _ c.time_before_reduction-time.ensures (c.turn-before.ensures t by.conflict (omega (arith, after)) (omega (arith, soon))))
    (at-some-limit (timer_at t was.conflict) (timer_at now was.conflict) c.acting_maximum-maximum.result _ (c.acting_maximum-maximum.ensures ∙ ap (λ (o : Option ℕ). acting_maximum plan given.runs c.args.p o) c.number_in-running.ensures)
    (c.turn_some-most.ensures t by.conflict (omega (arith, after)) (omega (arith, soon))))
    (at-some-limit (timer_at t was.timer) (timer_at now was.timer) c.floating_time-split.result _ c.floating_time-split.ensures (c.turn_some-floating.ensures t by.timer (omega (arith, after)) (omega (arith, soon))))
    reverts
