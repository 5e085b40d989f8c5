use Rattle.std.proofs.Common.{ℕ, ◌∙◌, ap, Option}
use Rattle.tsb_objects.specs.Checked.{checked_plan}
use Rattle.tsb_objects.specs.Instants.{may_recycle}
use Rattle.tsb_plan.specs.PlanOf.{plan_of}
use Rattle.tsb_objects.proofs.checked.Checked.recycling.Goals as goal

pub returns : goal.returns
unfolding checked_plan plan_of
returns c p from within =
    c.from_list.ensures p ∙ c.args.self.now.patterns_are.pedestrian_recycle c.word_of.result p c.word_of.ensures.within from within
    ∙ ap (λ (runs : Option ℕ). may_recycle (plan_of c.args.self.now.plan) runs p) c.word_of.ensures.runs
