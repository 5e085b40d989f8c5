use Rattle.std.proofs.Common.{ℕ, List, Option, sym, ap, ◌∙◌, ◌+◌, ◌-◌, arith}
use Rattle.tsb_types.specs.Lists.{run_from}
use Rattle.tsb_plan.specs.Holding.{best, holding}
use Rattle.tsb_plan.specs.PlanOf.{plan_of}
use Rattle.tsb_plan.proofs.RunStepLemmas.{run-first, run-none}
use Rattle.tsb_plan.proofs.plan.Plan.holding.Goals as goal

pub loop-entry-preserved : goal.loop-entry-preserved
loop-entry-preserved c = record {
  whole = ap (λ (o : Option ℕ). best (plan_of c.args.self.now) c.args.day o (run_from (c.loop-entry.entry + 1) (32 + 1 - (c.loop-entry.entry + 1)))) c.better-found.ensures.value
      ∙ sym (ap (λ (es : List ℕ). best (plan_of c.args.self.now) c.args.day c.loop-entry.found es) (run-first c.loop-entry.entry 32 (omega arith)))
      ∙ c.loop-entry.invariant.whole;
  from = c.better-found.ensures.from;
  to = c.better-found.ensures.to;
}

pub returns-clause-value : goal.returns-clause-value
unfolding holding
returns-clause-value c =
    sym (ap (λ (es : List ℕ). best (plan_of c.args.self.now) c.args.day c.loop-entry.found es) (run-none c.loop-entry.entry 32 (omega arith)))
    ∙ c.loop-entry.invariant.whole
