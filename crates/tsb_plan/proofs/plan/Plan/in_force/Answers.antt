use Rattle.std.proofs.Common.{◌≡◌, ℕ, ◌+◌, ◌/◌, ◌%◌, ◌≤◌, Option, Some, None, sym, subst, ap, ap₂, ◌∙◌, arith}
use Rattle.std.specs.Prelude.{IfSome}
use Rattle.tsb_types.specs.Lists.{or_else, or_number}
use Rattle.tsb_plan.specs.Acting.{action_on, action_at, action_before, searched, day_at, minute_at}
use Rattle.tsb_plan.specs.PlanOf.{plan_of}
use Rattle.tsb_plan.proofs.plan.Plan.in_force.Goals as goal

pub returns-in-Some-clause-value : goal.returns-in-Some-clause-value
unfolding action_at
returns-in-Some-clause-value c =
    let day : c.args.moment / c.from.result + 1453 ≡ day_at c.args.moment = ap (λ (k : ℕ). c.args.moment / k + 1453) c.from.ensures in
    let minute : c.args.moment % c.from-2.result / 600 ≡ minute_at c.args.moment = ap (λ (k : ℕ). c.args.moment % k / 600) c.from-2.ensures in
    let some : action_on (plan_of c.args.self.now) (day_at c.args.moment) (minute_at c.args.moment) ≡ Some c.in-Some.action =
    sym (c.action_on.ensures.value ∙ ap₂ (λ (d t : ℕ). action_on (plan_of c.args.self.now) d t) day minute) ∙ c.in-Some.is in
    sym (ap (λ (o : Option ℕ). or_number (or_else o (action_before (plan_of c.args.self.now) searched (day_at c.args.moment))) 0) some)

pub returns-in-None-clause-value : goal.returns-in-None-clause-value
unfolding action_at
returns-in-None-clause-value c =
    let day : c.args.moment / c.from.result + 1453 ≡ day_at c.args.moment = ap (λ (k : ℕ). c.args.moment / k + 1453) c.from.ensures in
    let minute : c.args.moment % c.from-2.result / 600 ≡ minute_at c.args.moment = ap (λ (k : ℕ). c.args.moment % k / 600) c.from-2.ensures in
    let none : action_on (plan_of c.args.self.now) (day_at c.args.moment) (minute_at c.args.moment) ≡ None =
    sym (c.action_on.ensures.value ∙ ap₂ (λ (d t : ℕ). action_on (plan_of c.args.self.now) d t) day minute) ∙ c.in-None.is in
    let before : c.action_before.result ≡ action_before (plan_of c.args.self.now) searched (day_at c.args.moment) =
    c.action_before.ensures.value ∙ ap (λ (d : ℕ). action_before (plan_of c.args.self.now) searched d) day in
    c.unwrap_or.ensures ∙ ap (λ (o : Option ℕ). or_number o 0) before
    ∙ sym (ap (λ (o : Option ℕ). or_number (or_else o (action_before (plan_of c.args.self.now) searched (day_at c.args.moment))) 0) none)

pub returns-in-None-clause-to : goal.returns-in-None-clause-to
returns-in-None-clause-to c = subst (λ (n : ℕ). n ≤ 32) (sym c.unwrap_or.ensures) (small c.action_before.result c.action_before.ensures.to)
  where
    small : (o : Option ℕ) → IfSome o (λ a. a ≤ 32) → or_number o 0 ≤ 32
    small None h = omega arith
    small (Some n) h = h
