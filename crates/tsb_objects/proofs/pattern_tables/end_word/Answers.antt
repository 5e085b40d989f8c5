use Rattle.std.proofs.Common.{ℕ, ◌<◌, ◌≤◌, Option, IfSome, ◌∙◌, subst, arith, rules}
use Rattle.std.proofs.lemmas.Grind.{common_steps}
use Rattle.tsb_plan.specs.PlanOf.{plan_of}
use Rattle.tsb_objects.proofs.InstantLemmas.{instants-small}
use Rattle.tsb_objects.proofs.pattern_tables.end_word.Goals as goal

pub overflow_cast-result : goal.overflow_cast-result
unfolding plan_of
overflow_cast-result c =
    let n : ℕ = c.args.n in
    let p : ℕ = c.args.p in
    let from : 1 ≤ n = search rules in
    let within : n ≤ 16 = search rules in
    let first : 1 ≤ p = search rules in
    let last : p ≤ 16 = search rules in
    let low : IfSome c.instant_at.result (λ i. i < 2550) =
    instants-small c.args.plan.now.values c.args.plan.now.ranged n p c.instant_at.result c.requires.used
    (c.instant_at.ensures ∙ c.requires.told n p from within first last c.requires.used) in
    let below : c.in-Some.at < 2550 = subst (λ (o : Option ℕ). IfSome o (λ i. i < 2550)) c.in-Some.is low in
    omega (arith, below, c.yields_for.ensures.range, c.late_until-late.ensures.range, c.max.ensures)

pub returns-in-Some : goal.returns-in-Some
returns-in-Some c = grind (arith, common_steps)
