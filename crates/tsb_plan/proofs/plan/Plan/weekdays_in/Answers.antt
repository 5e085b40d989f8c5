use Rattle.std.proofs.Common.{◌≡◌, ℕ, ◌+◌, ◌-◌, ◌≤◌, ap, ◌∙◌, arith, sum_by}
use Rattle.tsb_types.specs.Lists.{run_from}
use Rattle.tsb_types.proofs.RunLemmas.{sum-run_from, sum-run_end}
use Rattle.tsb_plan.specs.Schedule.{names_weekday}
use Rattle.tsb_plan.specs.Holding.{one_if}
use Rattle.tsb_plan.specs.PlanOf.{plan_of}
use Rattle.tsb_plan.proofs.plan.Plan.weekdays_in.Goals as goal

pub loop-weekday-preserved : goal.loop-weekday-preserved
loop-weekday-preserved c =
    let f : ℕ → ℕ = λ w. one_if (names_weekday (plan_of c.args.self.now) c.args.entry w) in
    let next : f c.loop-weekday.weekday + sum_by f (run_from (c.loop-weekday.weekday + 1) (7 + 1 - (c.loop-weekday.weekday + 1))) ≡ sum_by f (run_from c.loop-weekday.weekday (7 + 1 - c.loop-weekday.weekday)) =
    sum-run_from f c.loop-weekday.weekday 7 (omega arith) in
    let whole : c.loop-weekday.sum + sum_by f (run_from c.loop-weekday.weekday (7 + 1 - c.loop-weekday.weekday)) ≡ sum_by f (run_from 1 7) = c.loop-weekday.invariant.whole in
    let one : c.one_if-sum.result ≡ f c.loop-weekday.weekday = c.one_if-sum.ensures.value ∙ ap one_if c.names_weekday.ensures in
    let low : c.loop-weekday.sum ≤ c.loop-weekday.weekday - 1 = c.loop-weekday.invariant.range in
    let more : c.one_if-sum.result ≤ 1 = c.one_if-sum.ensures.within in
    record { whole = omega arith; range = omega arith }

pub returns-clause-value : goal.returns-clause-value
returns-clause-value c =
    let f : ℕ → ℕ = λ w. one_if (names_weekday (plan_of c.args.self.now) c.args.entry w) in
    let rest : sum_by f (run_from c.loop-weekday.weekday (7 + 1 - c.loop-weekday.weekday)) ≡ 0 = sum-run_end f c.loop-weekday.weekday 7 (omega arith) in
    let whole : c.loop-weekday.sum + sum_by f (run_from c.loop-weekday.weekday (7 + 1 - c.loop-weekday.weekday)) ≡ sum_by f (run_from 1 7) = c.loop-weekday.invariant.whole in
    omega arith
