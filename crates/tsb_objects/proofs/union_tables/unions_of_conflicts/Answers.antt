use Rattle.std.proofs.Common.{◌≡◌, ℕ, ◌+◌, ◌-◌, ◌==◌, ◌&&◌, not, arith, ◌∙◌, ap}
use Rattle.tsb_plan.specs.Plan.{Plan, is_concurrent}
use Rattle.tsb_plan.specs.PlanOf.{plan_of}
use Rattle.tsb_objects.proofs.union_tables.unions_of_conflicts.Goals as goal

pub returns : goal.returns
unfolding plan_of
returns c =
    let plan : Plan = plan_of c.args.plan.now in
    c.new.ensures (λ q p. not (q == p) && not (is_concurrent plan p q)) (λ n p first last from within.
    let number : n - 1 + 1 ≡ n = omega (arith, first) in
    c.conflicts.ensures.told (n - 1) p (omega (arith, first, last)) from within
    ∙ ap (λ (q : ℕ). not (q == p) && not (is_concurrent plan p q)) number)
