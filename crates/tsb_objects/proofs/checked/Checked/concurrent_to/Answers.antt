use Rattle.std.proofs.Common.{◌∙◌, rules}
use Rattle.tsb_objects.specs.Checked.{checked_plan}
use Rattle.tsb_plan.specs.PlanOf.{plan_of}
use Rattle.tsb_objects.proofs.TableLemmas.{named-back}
use Rattle.tsb_objects.proofs.checked.Checked.concurrent_to.Goals as goal

pub returns-clause-column : goal.returns-clause-column
unfolding checked_plan plan_of
returns-clause-column c p =
    c.concurrency.ensures p
    ∙ named-back c.args.self.now.plan.values c.args.self.now.plan.ranged c.args.self.now.passed c.args.q p c.known.ensures.from c.known.ensures.within

pub returns-clause-row : goal.returns-clause-row
unfolding plan_of checked_plan
returns-clause-row c = search rules fits 100
