use Rattle.std.proofs.Common.{◌≡◌, ℕ, ◌+◌, ◌-◌, ◌*◌, ◌≤◌, arith, sum_by}
use Rattle.tsb_types.specs.Lists.{run_from}
use Rattle.tsb_types.proofs.RunLemmas.{sum-run_from, sum-run_end}
use Rattle.tsb_plan.specs.Holding.{dates_of_month}
use Rattle.tsb_plan.specs.PlanOf.{plan_of}
use Rattle.tsb_plan.proofs.plan.Plan.dates_of.Goals as goal

pub loop-month-preserved : goal.loop-month-preserved
loop-month-preserved c =
    let f : ℕ → ℕ = dates_of_month (plan_of c.args.self.now) c.args.entry in
    let next : f c.loop-month.month + sum_by f (run_from (c.loop-month.month + 1) (12 + 1 - (c.loop-month.month + 1))) ≡ sum_by f (run_from c.loop-month.month (12 + 1 - c.loop-month.month)) =
    sum-run_from f c.loop-month.month 12 (omega arith) in
    let whole : c.loop-month.sum + sum_by f (run_from c.loop-month.month (12 + 1 - c.loop-month.month)) ≡ sum_by f (run_from 1 12) = c.loop-month.invariant.whole in
    let one : c.dates_of_month-sum.result ≡ f c.loop-month.month = c.dates_of_month-sum.ensures.value in
    let low : c.loop-month.sum ≤ 31 * (c.loop-month.month - 1) = c.loop-month.invariant.range in
    let more : c.dates_of_month-sum.result ≤ 31 = c.dates_of_month-sum.ensures.within in
    record { whole = omega arith; range = omega arith }

pub returns-clause-value : goal.returns-clause-value
returns-clause-value c =
    let f : ℕ → ℕ = dates_of_month (plan_of c.args.self.now) c.args.entry in
    let rest : sum_by f (run_from c.loop-month.month (12 + 1 - c.loop-month.month)) ≡ 0 = sum-run_end f c.loop-month.month 12 (omega arith) in
    let whole : c.loop-month.sum + sum_by f (run_from c.loop-month.month (12 + 1 - c.loop-month.month)) ≡ sum_by f (run_from 1 12) = c.loop-month.invariant.whole in
    omega arith
