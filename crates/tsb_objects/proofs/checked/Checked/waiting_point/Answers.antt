use Rattle.std.proofs.Common.{◌≡◌, ℕ, ◌<◌, ◌≤◌, ◌∙◌, subst, sym, rules}
use Rattle.tsb_objects.specs.Checked.{checked_plan}
use Rattle.tsb_plan.specs.Parts.{cycle}
use Rattle.tsb_plan.specs.Plan.{Plan}
use Rattle.tsb_plan.specs.PlanOf.{plan_of}
use Rattle.tsb_objects.specs.Instants.{waiting_point}
use Rattle.tsb_objects.proofs.InstantLemmas.{waits-below}
use Rattle.tsb_objects.proofs.checked.Checked.waiting_point.Goals as goal

pub returns-clause-value : goal.returns-clause-value
unfolding checked_plan plan_of
returns-clause-value c =
    let from : 1 ≤ c.args.n = search rules in
    let within : c.args.n ≤ 16 = search rules in
    c.word_at.ensures ∙ c.args.self.now.patterns_are.waiting_points c.args.n from within c.requires.used

pub returns-clause-below : goal.returns-clause-below
unfolding checked_plan plan_of
returns-clause-below c =
    let from : 1 ≤ c.args.n = search rules in
    let within : c.args.n ≤ 16 = search rules in
    let plan : Plan = plan_of c.args.self.now.plan in
    let told : c.word_at.result ≡ waiting_point plan c.args.n = c.word_at.ensures ∙ c.args.self.now.patterns_are.waiting_points c.args.n from within c.requires.used in
    subst (λ (x : ℕ). x < cycle plan c.args.n) (sym told) (waits-below plan c.args.n c.requires.used)
