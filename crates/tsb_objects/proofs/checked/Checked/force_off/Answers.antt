use Rattle.std.proofs.Common.{◌≤◌, ◌∙◌, rules}
use Rattle.tsb_objects.specs.Checked.{checked_plan}
use Rattle.tsb_plan.specs.PlanOf.{plan_of}
use Rattle.tsb_objects.proofs.InstantLemmas.{instants-below}
use Rattle.tsb_objects.proofs.checked.Checked.force_off.Goals as goal

pub returns-clause-below : goal.returns-clause-below
unfolding checked_plan plan_of
returns-clause-below c =
    let from : 1 ≤ c.args.n = search rules in
    let within : c.args.n ≤ 16 = search rules in
    let first : 1 ≤ c.args.p = search rules in
    let last : c.args.p ≤ 16 = search rules in
    instants-below (plan_of c.args.self.now.plan) c.args.n c.args.p c.instant_at.result c.requires.used
    (c.instant_at.ensures ∙ c.args.self.now.patterns_are.instants c.args.n c.args.p from within first last c.requires.used)
