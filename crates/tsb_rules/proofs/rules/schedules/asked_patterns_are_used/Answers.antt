use Rattle.std.proofs.Common.{ℕ, Bool, sym, ap, ◌∙◌, arith}
use Rattle.tsb_plan.specs.Schedule.{asked_by}
use Rattle.tsb_plan.specs.PlanOf.{plan_of}
use Rattle.tsb_rules.specs.ScheduleRules.{asks_well}
use Rattle.tsb_rules.proofs.RuleLemmas.{all-on, all-off, all-end}
use Rattle.tsb_rules.proofs.rules.schedules.asked_patterns_are_used.Goals as goal

pub returns-then-not-asks_well : goal.returns-then-not-asks_well
returns-then-not-asks_well c =
    let f : ℕ → Bool = λ a. asks_well (plan_of c.args.plan.now) (asked_by (plan_of c.args.plan.now) a) in
    sym (all-off f c.loop-action.action 32 (omega arith) (ap (asks_well (plan_of c.args.plan.now)) (sym c.asked_by.ensures.value) ∙ sym c.asks_well.ensures ∙ c.if-not-asks_well.true))
    ∙ c.loop-action.invariant.whole

pub loop-action-preserved : goal.loop-action-preserved
loop-action-preserved c =
    let f : ℕ → Bool = λ a. asks_well (plan_of c.args.plan.now) (asked_by (plan_of c.args.plan.now) a) in
    record {
      whole = all-on f c.loop-action.action 32 (omega arith) (ap (asks_well (plan_of c.args.plan.now)) (sym c.asked_by.ensures.value) ∙ sym c.asks_well.ensures ∙ c.if-not-asks_well.false)
          ∙ c.loop-action.invariant.whole;
    }

pub returns : goal.returns
returns c =
    let f : ℕ → Bool = λ a. asks_well (plan_of c.args.plan.now) (asked_by (plan_of c.args.plan.now) a) in
    sym (all-end f c.loop-action.action 32 (omega arith)) ∙ c.loop-action.invariant.whole
