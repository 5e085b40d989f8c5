use Rattle.std.proofs.Common.{◌-◌, sym, ◌∙◌, arith}
use Rattle.tsb_objects.specs.tsb_plan.Plan.{Plan}
use Rattle.tsb_objects.specs.tsb_plan.PlanOf.{plan_of}
use Rattle.tsb_phase.specs.declared.phase_row.PhaseRow.{PhaseRow}
use Rattle.tsb_phase.proofs.DueLemmas.{expired-found, expired-stays, on-unexpired}
use Rattle.tsb_phase.proofs.due.turn_gap.Goals as goal

pub returns-then-has_reached : goal.returns-then-has_reached
returns-then-has_reached c = λ t after soon.
    let plan : Plan = plan_of c.args.plan.now in
    let was : PhaseRow = c.args.was.now in
    let found = expired-found plan c.args.p was c.args.now _ _ _ c.at-reduction.ensures c.gap-limit.ensures c.has_reached.ensures ∙ c.if-has_reached.true in
    expired-stays plan c.args.p was c.args.now t after found ∙ sym found

pub returns : goal.returns
returns c = λ t after soon.
    let plan : Plan = plan_of c.args.plan.now in
    let was : PhaseRow = c.args.was.now in
    let by = c.requires.by in
    let added = c.saturating_add.ensures in
    let falls = c.is_falling.ensures.on c.if-not-is_falling.false in
    on-unexpired plan c.args.p was c.args.now t (omega arith) falls by.passage by.reduction after
    (c.ticks_to_gap-ticks.ensures (t - c.args.now) (omega (arith, soon, added, after)))
    ∙ sym (expired-found plan c.args.p was c.args.now _ _ _ c.at-reduction.ensures c.gap-limit.ensures c.has_reached.ensures ∙ c.if-has_reached.false)
