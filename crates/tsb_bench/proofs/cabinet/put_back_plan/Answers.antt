use Rattle.std.proofs.Common.{◌∙◌, ap, sym, subst, List, ℕ}
use Rattle.tsb_cells.specs.Diff.{apply_diff, part}
use Rattle.tsb_objects.specs.Checked.{checked_plan}
use Rattle.tsb_plan.specs.declared.object.TheConstants.{PLAN_CELLS}
use Rattle.tsb_plan.specs.Objects.{AreInRange}
use Rattle.tsb_plan.specs.PlanOf.{plan_of, plan_in}
use Rattle.tsb_step.specs.tsb_rules.Rules.{first_broken}
use Rattle.tsb_bench.proofs.ValueLemmas.{values-of}
use Rattle.tsb_bench.proofs.cabinet.put_back_plan.Goals as goal

pub put_back-before-requires : goal.put_back-before-requires
unfolding checked_plan
put_back-before-requires c =
    subst (λ (v : List ℕ). AreInRange (apply_diff v (part 0 PLAN_CELLS c.args.entries))) (sym (values-of c.plan.result.now c.args.plan.now.plan c.plan.ensures.plan)) c.requires.ranged

pub renew-requires : goal.renew-requires
unfolding checked_plan plan_of
renew-requires c =
    ap (λ (v : List ℕ). first_broken (plan_in v))
    (c.put_back-before.ensures ∙ ap (λ (v : List ℕ). apply_diff v (part 0 PLAN_CELLS c.args.entries)) (values-of c.plan.result.now c.args.plan.now.plan c.plan.ensures.plan))
    ∙ c.requires.passed

pub returns : goal.returns
unfolding checked_plan
returns c =
    values-of c.renew.new.self.plan c.put_back-before.result c.renew.ensures ∙ c.put_back-before.ensures
    ∙ ap (λ (v : List ℕ). apply_diff v (part 0 PLAN_CELLS c.args.entries)) (values-of c.plan.result.now c.args.plan.now.plan c.plan.ensures.plan)
