use Rattle.std.proofs.Common.{◌∙◌, ℕ, ap}
use Rattle.tsb_plan.specs.PlanOf.{plan_of}
use Rattle.tsb_review.specs.Numbers.{number_of, open_in}
use Rattle.tsb_review.specs.Schedules.{open_date}
use Rattle.tsb_review.proofs.numbers.open_numbers.Goals as goal

pub returns : goal.returns
returns c =
    let plan = plan_of c.args.plan.now in
    c.open_in.ensures
    ∙ ap (open_in plan c.first_month-month.result) c.first_day.ensures.value
    ∙ ap (λ (m : ℕ). open_in plan m (number_of (open_date plan m))) c.first_month-month.ensures.value
