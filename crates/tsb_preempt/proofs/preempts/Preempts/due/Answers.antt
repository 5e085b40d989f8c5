use Rattle.std.proofs.Common.{◌<◌, ◌-◌, subst, arith}
use Rattle.tsb_objects.specs.Checked.{checked_plan}
use Rattle.tsb_objects.specs.tsb_plan.Plan.{Plan}
use Rattle.tsb_preempt.specs.Layer.{cells_of}
use Rattle.tsb_preempt.specs.Due.{AreQuietUntil, OrdersStandUntil}
use Rattle.tsb_preempt.proofs.IdleLemmas.{idle-ticked, idle-standing}
use Rattle.tsb_preempt.proofs.ReadLemmas.{stays-by}
use Rattle.tsb_preempt.proofs.ServiceLemmas.{few-checked}
use Rattle.tsb_preempt.proofs.preempts.Preempts.due.Goals as goal

pub returns-then-is_idle-clause-quiet : goal.returns-then-is_idle-clause-quiet
returns-then-is_idle-clause-quiet c = λ t after before.
    idle-ticked t (checked_plan c.args.plan.now) c.args.row.now c.args.intervals.now (cells_of c.args.self.now) c.inputs.result
    (few-checked c.args.plan.now) (omega (arith, after)) (stays-by c.args.now (t - 1) (cells_of c.args.self.now) (omega (arith, after)) c.requires.by) c.inputs.ensures (c.is_idle.ensures c.if-is_idle.true)

pub returns-then-is_idle-clause-orders : goal.returns-then-is_idle-clause-orders
returns-then-is_idle-clause-orders c = λ t after before orders standing.
    idle-standing t (checked_plan c.args.plan.now) c.args.row.now c.args.intervals.now (cells_of c.args.self.now) c.inputs.result
    (few-checked c.args.plan.now) (omega (arith, after)) (stays-by c.args.now (t - 1) (cells_of c.args.self.now) (omega (arith, after)) c.requires.by) c.inputs.ensures (c.is_idle.ensures c.if-is_idle.true)
    c.args.now orders standing

pub returns-clause-quiet : goal.returns-clause-quiet
returns-clause-quiet c = λ t after before.
    let early : t < c.due_of.result = omega arith in
    subst (λ (plan : Plan). AreQuietUntil c.args.now c.args.row.now c.args.intervals.now plan (cells_of c.args.self.now) c.due_of.result) c.plan.ensures.plan (c.due_of.ensures.quiet c.args.now c.requires.by)
    t after early

pub returns-clause-orders : goal.returns-clause-orders
returns-clause-orders c = λ t after before orders standing.
    let early : t < c.due_of.result = omega arith in
    subst (λ (plan : Plan). OrdersStandUntil c.args.now c.args.row.now c.args.intervals.now plan (cells_of c.args.self.now) c.due_of.result) c.plan.ensures.plan (c.due_of.ensures.orders c.args.now c.requires.by)
    t after early orders standing
