use Rattle.std.proofs.Common.{◌≡◌, ◌∙◌, ℕ, subst, arith}
use Rattle.tsb_cells.specs.Timer.{timer_at, has_reached}
use Rattle.tsb_objects.specs.tsb_plan.PlanOf.{plan_of}
use Rattle.tsb_overlap.specs.Reading.{since_in}
use Rattle.tsb_overlap.proofs.DueLemmas.{arrow-still}
use Rattle.tsb_overlap.proofs.arrow.due.Goals as goal

pub returns-in-Yellow : goal.returns-in-Yellow
unfolding plan_of
returns-in-Yellow c = λ preempted omitted lights t arrow after soon.
    arrow-still (plan_of c.args.plan.now) preempted omitted lights c.args.seen.now c.args.o c.args.part.now c.args.now t (omega arith) arrow
    (λ p yellow is. c.yellow_due.ensures t p after soon is) (λ other. absurd (other c.in-Yellow.is))

pub returns-in_default : goal.returns-in_default
unfolding plan_of
returns-in_default c = λ preempted omitted lights t arrow after soon.
    arrow-still (plan_of c.args.plan.now) preempted omitted lights c.args.seen.now c.args.o c.args.part.now c.args.now t (omega arith) arrow
    (λ p yellow is. absurd (c.in_default.not-Yellow yellow))
    (λ other p from to inside green.
    subst (λ (time : ℕ). has_reached (timer_at t (since_in c.args.seen.now p)) time ≡ has_reached (timer_at c.args.now (since_in c.args.seen.now p)) time) c.arrow_delay.ensures
    (c.green_due.ensures t p after soon from to (c.included_phases.ensures p ∙ inside) green))
