use Rattle.std.proofs.Common.{ℕ, ◌≤◌, ◌∙◌, rules, arith}
use Rattle.std.proofs.lemmas.Grind.{common_steps}
use Rattle.tsb_plan.specs.PlanOf.{plan_of}
use Rattle.tsb_objects.proofs.InstantLemmas.{instants-small}
use Rattle.tsb_objects.proofs.late_ends.late_end.Goals as goal

pub returns-in-Some-clause-range : goal.returns-in-Some-clause-range
unfolding plan_of
returns-in-Some-clause-range c =
    let n : ℕ = c.args.n in
    let p : ℕ = c.in-Some.c in
    let from : 1 ≤ n = search rules in
    let within : n ≤ 16 = search rules in
    let first : 1 ≤ p = search rules in
    let last : p ≤ 16 = search rules in
    instants-small c.args.plan.now.values c.args.plan.now.ranged n p c.instant_at.result c.requires.used
    (c.instant_at.ensures ∙ c.requires.told n p from within first last c.requires.used)

pub returns-in-Some-clause-value : goal.returns-in-Some-clause-value
unfolding plan_of
returns-in-Some-clause-value c = grind (arith, common_steps)
