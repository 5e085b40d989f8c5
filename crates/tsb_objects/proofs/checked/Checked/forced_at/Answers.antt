use Rattle.std.proofs.Common.{ℕ, ◌+◌, ◌-◌, ◌*◌, ◌≤◌, ◌∙◌, get_or, rules}
use Rattle.tsb_objects.specs.Checked.{checked_plan}
use Rattle.tsb_plan.specs.PlanOf.{plan_of}
use Rattle.tsb_objects.proofs.InstantLemmas.{by-words}
use Rattle.tsb_objects.proofs.checked.Checked.forced_at.Goals as goal

pub returns : goal.returns
unfolding checked_plan plan_of
returns c = λ p first last.
    let from : 1 ≤ c.args.n = search rules in
    let within : c.args.n ≤ 16 = search rules in
    let k : ℕ = 16 * (c.args.n - 1) + (p - 1) in
    c.forced_in.ensures p first last
    ∙ by-words (plan_of c.args.self.now.plan) c.args.n p c.cycle.result c.args.local
    (get_or c.args.self.now.pattern_tables.instants k 0) (get_or c.args.self.now.pattern_tables.ends k 0) c.requires.used c.cycle.ensures.value
    (c.args.self.now.patterns_are.instants c.args.n p from within first last c.requires.used)
    (c.args.self.now.patterns_are.ends c.args.n p from within first last c.requires.used)
