use Rattle.std.proofs.Common.{◌≡◌, ℕ, ◌+◌, ◌-◌, ◌≤◌, ap, ◌∙◌, arith, sum_by}
use Rattle.tsb_types.specs.Lists.{run_from}
use Rattle.tsb_types.proofs.RunLemmas.{sum-run_from, sum-run_end}
use Rattle.tsb_plan.specs.Schedule.{names_date}
use Rattle.tsb_plan.specs.Holding.{one_if}
use Rattle.tsb_plan.specs.PlanOf.{plan_of}
use Rattle.tsb_plan.proofs.plan.Plan.dates_in.Goals as goal

pub loop-day-preserved : goal.loop-day-preserved
loop-day-preserved c =
    let f : ℕ → ℕ = λ d. one_if (names_date (plan_of c.args.self.now) c.args.entry d) in
    let next : f c.loop-day.day + sum_by f (run_from (c.loop-day.day + 1) (c.args.length + 1 - (c.loop-day.day + 1))) ≡ sum_by f (run_from c.loop-day.day (c.args.length + 1 - c.loop-day.day)) =
    sum-run_from f c.loop-day.day c.args.length (omega arith) in
    let whole : c.loop-day.sum + sum_by f (run_from c.loop-day.day (c.args.length + 1 - c.loop-day.day)) ≡ sum_by f (run_from 1 c.args.length) = c.loop-day.invariant.whole in
    let one : c.one_if-sum.result ≡ f c.loop-day.day = c.one_if-sum.ensures.value ∙ ap one_if c.names_date.ensures in
    let low : c.loop-day.sum ≤ c.loop-day.day - 1 = c.loop-day.invariant.range in
    let more : c.one_if-sum.result ≤ 1 = c.one_if-sum.ensures.within in
    record { whole = omega arith; range = omega arith }

pub returns-clause-value : goal.returns-clause-value
returns-clause-value c =
    let f : ℕ → ℕ = λ d. one_if (names_date (plan_of c.args.self.now) c.args.entry d) in
    let rest : sum_by f (run_from c.loop-day.day (c.args.length + 1 - c.loop-day.day)) ≡ 0 = sum-run_end f c.loop-day.day c.args.length (omega arith) in
    let whole : c.loop-day.sum + sum_by f (run_from c.loop-day.day (c.args.length + 1 - c.loop-day.day)) ≡ sum_by f (run_from 1 c.args.length) = c.loop-day.invariant.whole in
    omega arith
