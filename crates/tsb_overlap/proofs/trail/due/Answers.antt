use Rattle.std.proofs.Common.{◌≡◌, ℕ, subst}
use Rattle.tsb_cells.specs.Timer.{timer_at, has_reached}
use Rattle.tsb_objects.specs.tsb_plan.PlanOf.{plan_of}
use Rattle.tsb_overlap.proofs.DueLemmas.{trail-still, other-times}
use Rattle.tsb_overlap.proofs.trail.due.Goals as goal

pub returns-in-TrailGreen : goal.returns-in-TrailGreen
returns-in-TrailGreen c = λ preempted omitted lights seen t arrow trail after soon.
    trail-still (plan_of c.args.plan.now) preempted omitted lights seen c.args.o c.args.part.now c.args.now t arrow trail
    (rw c.in-TrailGreen.is
    (subst (λ (time : ℕ). has_reached (timer_at t c.args.part.now.timer) time ≡ has_reached (timer_at c.args.now c.args.part.now.timer) time) c.trail_green.ensures
    (c.reached_at.ensures t after soon)))

pub returns-in-Yellow : goal.returns-in-Yellow
returns-in-Yellow c = λ preempted omitted lights seen t arrow trail after soon.
    trail-still (plan_of c.args.plan.now) preempted omitted lights seen c.args.o c.args.part.now c.args.now t arrow trail
    (rw c.in-Yellow.is
    (subst (λ (time : ℕ). has_reached (timer_at t c.args.part.now.timer) time ≡ has_reached (timer_at c.args.now c.args.part.now.timer) time) c.trail_yellow.ensures
    (c.reached_at-in-Yellow.ensures t after soon)))

pub returns-in-RedClear : goal.returns-in-RedClear
returns-in-RedClear c = λ preempted omitted lights seen t arrow trail after soon.
    trail-still (plan_of c.args.plan.now) preempted omitted lights seen c.args.o c.args.part.now c.args.now t arrow trail
    (rw c.in-RedClear.is
    (subst (λ (time : ℕ). has_reached (timer_at t c.args.part.now.timer) time ≡ has_reached (timer_at c.args.now c.args.part.now.timer) time) c.trail_red.ensures
    (c.reached_at-in-RedClear.ensures t after soon)))

pub returns-in_default : goal.returns-in_default
returns-in_default c = λ preempted omitted lights seen t arrow trail after soon.
    trail-still (plan_of c.args.plan.now) preempted omitted lights seen c.args.o c.args.part.now c.args.now t arrow trail
    (other-times (plan_of c.args.plan.now) c.args.o c.args.part.now.timer c.args.part.now.phase c.args.now t c.args.part.now.interval
    c.in_default.not-TrailGreen c.in_default.not-Yellow c.in_default.not-RedClear)
