use Rattle.std.proofs.Common.{◌≡◌, ℕ, ◌+◌, ◌-◌, arith, ◌∙◌, ap}
use Rattle.tsb_plan.specs.Parts.{pedestrian_call_phase}
use Rattle.tsb_plan.specs.Plan.{Plan}
use Rattle.tsb_plan.specs.PlanOf.{plan_of}
use Rattle.tsb_types.specs.Lists.{is}
use Rattle.tsb_objects.proofs.union_tables.unions_of_walks.Goals as goal

pub returns : goal.returns
unfolding plan_of
returns c =
    let plan : Plan = plan_of c.args.plan.now in
    c.new.ensures (λ d p. is p (pedestrian_call_phase plan d)) (λ n p first last from within.
    let number : n - 1 + 1 ≡ n = omega (arith, first) in
    c.walks_called.ensures.told (n - 1) p (omega (arith, first, last)) ∙ ap (λ (d : ℕ). is p (pedestrian_call_phase plan d)) number)
