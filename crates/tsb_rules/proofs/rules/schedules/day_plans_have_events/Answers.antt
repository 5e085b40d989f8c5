use Rattle.std.proofs.Common.{sym, ◌∙◌, arith}
use Rattle.tsb_plan.specs.PlanOf.{plan_of}
use Rattle.tsb_rules.specs.ScheduleRules.{runs_events}
use Rattle.tsb_rules.proofs.RuleLemmas.{all-on, all-off, all-end}
use Rattle.tsb_rules.proofs.rules.schedules.day_plans_have_events.Goals as goal

pub returns-then-not-runs_events : goal.returns-then-not-runs_events
returns-then-not-runs_events c =
    sym (all-off (runs_events (plan_of c.args.plan.now)) c.loop-entry.entry 32 (omega arith) (sym c.runs_events.ensures ∙ c.if-not-runs_events.true)) ∙ c.loop-entry.invariant.whole

pub loop-entry-preserved : goal.loop-entry-preserved
loop-entry-preserved c = record {
  whole = all-on (runs_events (plan_of c.args.plan.now)) c.loop-entry.entry 32 (omega arith) (sym c.runs_events.ensures ∙ c.if-not-runs_events.false) ∙ c.loop-entry.invariant.whole;
}

pub returns : goal.returns
returns c = sym (all-end (runs_events (plan_of c.args.plan.now)) c.loop-entry.entry 32 (omega arith)) ∙ c.loop-entry.invariant.whole
