use Rattle.std.proofs.Common.{sym, ◌∙◌, arith}
use Rattle.tsb_plan.specs.PlanOf.{plan_of}
use Rattle.tsb_rules.specs.ScheduleRules.{names_defined}
use Rattle.tsb_rules.proofs.RuleLemmas.{all-on, all-off, all-end}
use Rattle.tsb_rules.proofs.rules.schedules.actions_are_defined.Goals as goal

pub returns-then-not-names_defined : goal.returns-then-not-names_defined
returns-then-not-names_defined c =
    sym (all-off (names_defined (plan_of c.args.plan.now)) c.loop-day_plan.day_plan 16 (omega arith) (sym c.names_defined.ensures ∙ c.if-not-names_defined.true)) ∙ c.loop-day_plan.invariant.whole

pub loop-day_plan-preserved : goal.loop-day_plan-preserved
loop-day_plan-preserved c = record {
  whole = all-on (names_defined (plan_of c.args.plan.now)) c.loop-day_plan.day_plan 16 (omega arith) (sym c.names_defined.ensures ∙ c.if-not-names_defined.false) ∙ c.loop-day_plan.invariant.whole;
}

pub returns : goal.returns
returns c = sym (all-end (names_defined (plan_of c.args.plan.now)) c.loop-day_plan.day_plan 16 (omega arith)) ∙ c.loop-day_plan.invariant.whole
