use Rattle.std.proofs.Common.{ℕ, ◌≡◌, ◌+◌, ◌-◌, ◌<◌, ◌==◌, ◌∙◌, ap, arith}
use Rattle.tsb_objects.specs.Checked.{checked_plan}
use Rattle.tsb_plan.specs.Plan.{ring_of}
use Rattle.tsb_plan.specs.PlanOf.{plan_of}
use Rattle.tsb_objects.proofs.checked.Checked.ring.Goals as goal

pub returns : goal.returns
unfolding checked_plan plan_of
returns c p =
    let k : ℕ = c.from.result - 1 in
    let within : k < 2 = grind (arith, c.from.ensures, c.number.ensures.within, c.number.ensures.from_one) in
    let number : k + 1 ≡ c.args.r = grind (arith, c.from.ensures, c.number.ensures.same, c.number.ensures.from_one) in
    c.from_list.ensures p ∙ c.args.self.now.phases_are.rings k p within
    ∙ ap (λ (n : ℕ). ring_of (plan_of c.args.self.now.plan) p == n) number
