use Rattle.std.proofs.Common.{◌∙◌, ℕ, sym, ap}
use Rattle.tsb_plan.specs.PlanOf.{plan_of}
use Rattle.tsb_review.specs.Numbers.{number_of}
use Rattle.tsb_review.specs.Schedules.{open_date}
use Rattle.tsb_review.proofs.ScheduleLemmas.{no-date}
use Rattle.tsb_review.proofs.numbers.first_day.Goals as goal

pub returns-then-month-eq0-clause-value : goal.returns-then-month-eq0-clause-value
returns-then-month-eq0-clause-value c =
    sym (ap (λ (m : ℕ). number_of (open_date (plan_of c.args.plan.now) m)) c.if-month-eq0.true ∙ ap number_of (no-date (plan_of c.args.plan.now)))
