use Rattle.std.proofs.Common.{◌≡◌, ℕ, not, ◌==◌, true, Option, Some, sym, ap, subst, ◌∙◌}
use Rattle.std.specs.Prelude.{IfSome}
use Rattle.std.proofs.lemmas.Bool.{false≢true}
use Rattle.tsb_plan.specs.Schedule.{day_plan_of}
use Rattle.tsb_plan.specs.Holding.{matches, holding}
use Rattle.tsb_plan.specs.PlanOf.{plan_of}
use Rattle.tsb_plan.proofs.HoldingLemmas.{holding-matches, names-plan}
use Rattle.tsb_plan.proofs.plan.Plan.action_on.Goals as goal

pub returns-then-day_plan-eq0-clause-value : goal.returns-then-day_plan-eq0-clause-value
returns-then-day_plan-eq0-clause-value c =
    let e : ℕ = c.in_ok-entry.entry in
    let held : Some e ≡ holding (plan_of c.args.self.now) c.args.day = c.in_ok-entry.ensures.value in
    let it : matches (plan_of c.args.self.now) e c.args.day ≡ true =
    subst (λ (o : Option ℕ). IfSome o (λ k. matches (plan_of c.args.self.now) k c.args.day ≡ true)) (sym held) (holding-matches (plan_of c.args.self.now) c.args.day) in
    let zero : day_plan_of (plan_of c.args.self.now) e ≡ 0 = sym c.day_plan_of-day_plan.ensures.value ∙ c.if-day_plan-eq0.true in
    absurd (false≢true (sym (ap (λ (n : ℕ). not (n == 0)) zero) ∙ names-plan (plan_of c.args.self.now) c.args.day e it))
