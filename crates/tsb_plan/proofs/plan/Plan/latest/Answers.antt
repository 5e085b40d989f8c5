use Rattle.std.proofs.Common.{ℕ, List, Option, sym, ap, ◌∙◌, ◌+◌, ◌-◌, arith}
use Rattle.tsb_types.specs.Lists.{run_from}
use Rattle.tsb_plan.specs.Acting.{latest}
use Rattle.tsb_plan.specs.PlanOf.{plan_of}
use Rattle.tsb_plan.proofs.RunStepLemmas.{run-first, run-none}
use Rattle.tsb_plan.proofs.plan.Plan.latest.Goals as goal

pub loop-event-preserved : goal.loop-event-preserved
loop-event-preserved c = record {
  whole = ap (λ (o : Option ℕ). latest (plan_of c.args.self.now) c.args.day_plan c.args.minute o (run_from (c.loop-event.event + 1) (16 + 1 - (c.loop-event.event + 1)))) c.later_event-found.ensures.value
      ∙ sym (ap (λ (es : List ℕ). latest (plan_of c.args.self.now) c.args.day_plan c.args.minute c.loop-event.found es) (run-first c.loop-event.event 16 (omega arith)))
      ∙ c.loop-event.invariant.whole;
  from = c.later_event-found.ensures.from;
  to = c.later_event-found.ensures.to;
}

pub returns-clause-value : goal.returns-clause-value
returns-clause-value c =
    sym (ap (λ (es : List ℕ). latest (plan_of c.args.self.now) c.args.day_plan c.args.minute c.loop-event.found es) (run-none c.loop-event.event 16 (omega arith)))
    ∙ c.loop-event.invariant.whole
