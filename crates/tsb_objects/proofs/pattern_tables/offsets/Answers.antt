use Rattle.std.proofs.Common.{◌≡◌, ℕ, ◌+◌, ◌-◌, true, get_or, arith, subst}
use Rattle.tsb_plan.specs.Parts.{is_used}
use Rattle.tsb_plan.specs.PlanOf.{plan_of}
use Rattle.tsb_objects.specs.Instants.{offset_in_effect}
use Rattle.tsb_objects.proofs.pattern_tables.offsets.Goals as goal

pub returns-clause-told : goal.returns-clause-told
returns-clause-told c n from within used =
    let j : ℕ = n - 1 in
    let row : j + 1 ≡ n = omega arith in
    subst (λ (m : ℕ). is_used (plan_of c.args.plan.now) m ≡ true → get_or c.loop-k.words j 0 ≡ offset_in_effect (plan_of c.args.plan.now) m) row
    (c.loop-k.invariant.told j (omega arith)) used
