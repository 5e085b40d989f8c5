use Rattle.std.proofs.Common.{◌∙◌, ℕ, ◌==◌, nat_le, not, ◌&&◌, sym, ap}
use Rattle.tsb_plan.specs.PlanOf.{plan_of}
use Rattle.tsb_review.proofs.ScheduleLemmas.{no-number, some-number, soon-none, soon-some}
use Rattle.tsb_review.proofs.schedules.ends_within_cycle.Goals as goal

pub returns-in-Some : goal.returns-in-Some
returns-in-Some c =
    c.has_soon.ensures
    ∙ sym (soon-some (plan_of c.args.plan.now) c.args.day_plan c.args.event
    (ap (λ (n : ℕ). not (n == 0)) (sym c.pattern_at.ensures) ∙ some-number c.pattern_at.result c.in-Some.pattern (sym c.new.ensures ∙ c.in-Some.is)))

pub returns-in-None : goal.returns-in-None
returns-in-None c =
    sym (soon-none c.args.plan.now c.args.day_plan c.args.event
    (ap (λ (n : ℕ). nat_le 1 n && nat_le n 16) (sym c.pattern_at.ensures) ∙ no-number c.pattern_at.result (sym c.new.ensures ∙ c.in-None.is)))
