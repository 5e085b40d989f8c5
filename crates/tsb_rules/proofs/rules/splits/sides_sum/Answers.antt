use Rattle.std.proofs.Common.{◌≡◌, ℕ, ◌+◌, ◌-◌, ◌*◌, ◌≤◌, arith, sum_by}
use Rattle.tsb_types.specs.Lists.{run_from}
use Rattle.tsb_rules.specs.PatternRules.{side_sum}
use Rattle.tsb_plan.specs.PlanOf.{plan_of}
use Rattle.tsb_types.proofs.RunLemmas.{sum-run_from, sum-run_end}
use Rattle.tsb_rules.proofs.rules.splits.sides_sum.Goals as goal

pub loop-side-preserved : goal.loop-side-preserved
loop-side-preserved c =
    let f : ℕ → ℕ = side_sum (plan_of c.args.plan.now) c.args.split in
    let next : f c.loop-side.side + sum_by f (run_from (c.loop-side.side + 1) (c.args.last + 1 - (c.loop-side.side + 1))) ≡ sum_by f (run_from c.loop-side.side (c.args.last + 1 - c.loop-side.side)) =
    sum-run_from f c.loop-side.side c.args.last (omega arith) in
    let whole : c.loop-side.sum + sum_by f (run_from c.loop-side.side (c.args.last + 1 - c.loop-side.side)) ≡ sum_by f (run_from 1 c.args.last) = c.loop-side.invariant.whole in
    let one : c.side_sum-sum.result ≡ f c.loop-side.side = c.side_sum-sum.ensures.sum in
    let low : c.loop-side.sum ≤ 40800 * (c.loop-side.side - 1) = c.loop-side.invariant.range in
    let more : c.side_sum-sum.result ≤ 40800 = c.side_sum-sum.ensures.range in
    record { whole = omega arith; range = omega arith }

pub returns-clause-sum : goal.returns-clause-sum
returns-clause-sum c =
    let f : ℕ → ℕ = side_sum (plan_of c.args.plan.now) c.args.split in
    let rest : sum_by f (run_from c.loop-side.side (c.args.last + 1 - c.loop-side.side)) ≡ 0 = sum-run_end f c.loop-side.side c.args.last (omega arith) in
    let whole : c.loop-side.sum + sum_by f (run_from c.loop-side.side (c.args.last + 1 - c.loop-side.side)) ≡ sum_by f (run_from 1 c.args.last) = c.loop-side.invariant.whole in
    omega arith
