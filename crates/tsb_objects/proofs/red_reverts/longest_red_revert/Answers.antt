use Rattle.std.proofs.Common.{◌≡◌, ◌≤◌, ℕ, subst, arith, inl, inr}
use Rattle.tsb_plan.specs.Plan.{Plan, red_revert}
use Rattle.tsb_plan.specs.PlanOf.{plan_of}
use Rattle.tsb_objects.proofs.TableLemmas.{one-longer, longest-of_some, longest-of_first}
use Rattle.tsb_objects.proofs.red_reverts.longest_red_revert.Goals as goal

pub loop-number-preserved : goal.loop-number-preserved
loop-number-preserved c =
    let plan : Plan = plan_of c.args.plan.now in
    let from = c.loop-number.invariant.from in
    let is = subst (λ (q : ℕ). c.red_revert-time.result ≡ red_revert plan q) c.of.ensures c.red_revert-time.ensures in
    record {
      from = omega (arith, from);
      told =
          one-longer (red_revert plan) c.loop-number.longest c.red_revert-time.result c.loop-number.number _ c.max-longest.ensures is c.loop-number.invariant.told;
      some =
          longest-of_some (red_revert plan) c.loop-number.longest c.red_revert-time.result c.loop-number.number _ c.max-longest.ensures is from (omega arith)
          c.loop-number.invariant.some;
    }

pub returns : goal.returns
unfolding plan_of
returns c =
    let each : (p : ℕ) → 1 ≤ p → p ≤ 16 → red_revert (plan_of c.args.plan.now) p ≤ c.loop-number.longest =
    λ p from within. c.loop-number.invariant.told p from (omega (arith, within)) in
    record {
      none_longer = each;
      of_some =
          elim c.loop-number.invariant.some [
            | inl none ↦ longest-of_first (red_revert (plan_of c.args.plan.now)) c.loop-number.longest none (each 1 (omega arith) (omega arith))
            | inr some ↦ some
          ];
    }
