use Rattle.std.proofs.Common.{sym, ◌∙◌, arith}
use Rattle.tsb_plan.specs.PlanOf.{plan_of}
use Rattle.tsb_rules.specs.ScheduleRules.{are_apart}
use Rattle.tsb_rules.proofs.RuleLemmas.{all-on, all-off, all-end}
use Rattle.tsb_rules.proofs.rules.schedules.events_are_apart.Goals as goal

pub returns-then-not-are_apart : goal.returns-then-not-are_apart
returns-then-not-are_apart c =
    sym (all-off (are_apart (plan_of c.args.plan.now)) c.loop-day_plan.day_plan 16 (omega arith) (sym c.are_apart.ensures ∙ c.if-not-are_apart.true)) ∙ c.loop-day_plan.invariant.whole

pub loop-day_plan-preserved : goal.loop-day_plan-preserved
loop-day_plan-preserved c = record {
  whole = all-on (are_apart (plan_of c.args.plan.now)) c.loop-day_plan.day_plan 16 (omega arith) (sym c.are_apart.ensures ∙ c.if-not-are_apart.false) ∙ c.loop-day_plan.invariant.whole;
}

pub returns : goal.returns
returns c = sym (all-end (are_apart (plan_of c.args.plan.now)) c.loop-day_plan.day_plan 16 (omega arith)) ∙ c.loop-day_plan.invariant.whole
