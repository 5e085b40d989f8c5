use Rattle.std.proofs.Common.{◌≡◌, arith, ℕ, List}
use Rattle.std.proofs.lemmas.Bool.Decides.{nat_tests}
use Rattle.tsb_plan.specs.Objects.{value_in}
use Rattle.tsb_plan.specs.PlanOf.{plan_of}
use Rattle.tsb_objects.proofs.RangeLemmas.{agree-one, one-agrees}
use Rattle.tsb_objects.proofs.agreement.agree_on.Goals as goal

pub returns : goal.returns
unfolding plan_of
returns c =
    let own : List ℕ = c.args.plan.now.values in
    let others : List ℕ = c.args.other.now.values in (
      (λ same. agree-one own others c.args.object c.requires (grind (arith, nat_tests))),
      (λ agree. let same : value_in own c.args.object 1 ≡ value_in others c.args.object 1 = one-agrees own others c.args.object agree in grind (arith, nat_tests)),
    )
