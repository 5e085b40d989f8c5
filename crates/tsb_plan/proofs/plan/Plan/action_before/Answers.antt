use Rattle.std.proofs.Common.{◌≡◌, ℕ, ◌+◌, ◌-◌, Option, Some, None, sym, ap, ◌∙◌, arith}
use Rattle.tsb_types.specs.Lists.{or_else}
use Rattle.tsb_plan.specs.Acting.{action_on, action_before, last_minute}
use Rattle.tsb_plan.specs.PlanOf.{plan_of}
use Rattle.tsb_plan.proofs.ActingLemmas.{before-first}
use Rattle.tsb_plan.proofs.plan.Plan.action_before.Goals as goal

pub loop-n-init : goal.loop-n-init
loop-n-init c = record {
  whole = ap (λ (d : ℕ). action_before (plan_of c.args.self.now) 365 d) (omega arith);
}

pub loop-n-preserved : goal.loop-n-preserved
loop-n-preserved c =
    let none : action_on (plan_of c.args.self.now) (c.args.day - (c.loop-n.n + 1)) last_minute ≡ None =
    sym (c.action_on.ensures.value ∙ ap (λ (d : ℕ). action_on (plan_of c.args.self.now) d last_minute) c.saturating_sub.ensures) ∙ c.in_default.is in
    record {
      whole = sym (before-first (plan_of c.args.self.now) 365 c.loop-n.n c.args.day (omega arith)
          ∙ ap (λ (o : Option ℕ). or_else o (action_before (plan_of c.args.self.now) (365 - (c.loop-n.n + 1)) (c.args.day - (c.loop-n.n + 1)))) none)
          ∙ c.loop-n.invariant.whole;
    }

pub returns-in-Some-clause-value : goal.returns-in-Some-clause-value
returns-in-Some-clause-value c =
    let some : action_on (plan_of c.args.self.now) (c.args.day - (c.loop-n.n + 1)) last_minute ≡ Some c.in-Some.action =
    sym (c.action_on.ensures.value ∙ ap (λ (d : ℕ). action_on (plan_of c.args.self.now) d last_minute) c.saturating_sub.ensures) ∙ c.in-Some.is in
    sym (sym c.loop-n.invariant.whole
    ∙ before-first (plan_of c.args.self.now) 365 c.loop-n.n c.args.day (omega arith)
    ∙ ap (λ (o : Option ℕ). or_else o (action_before (plan_of c.args.self.now) (365 - (c.loop-n.n + 1)) (c.args.day - (c.loop-n.n + 1)))) some)

pub returns-clause-value : goal.returns-clause-value
returns-clause-value c =
    let done : 365 - c.loop-n.n ≡ 0 = omega arith in
    sym (ap (λ (k : ℕ). action_before (plan_of c.args.self.now) k (c.args.day - c.loop-n.n)) done) ∙ c.loop-n.invariant.whole
