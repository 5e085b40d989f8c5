use Rattle.std.proofs.Common.{◌≡◌, ℕ, ◌≤◌, true, ◌∙◌, rules}
use Rattle.tsb_plan.specs.Parts.{is_used}
use Rattle.tsb_plan.specs.PlanOf.{plan_of}
use Rattle.tsb_objects.proofs.InstantLemmas.{instants-small}
use Rattle.tsb_objects.proofs.pattern_tables.waiting_word.Goals as goal

pub tick_before-requires-clause-below : goal.tick_before-requires-clause-below
unfolding plan_of
tick_before-requires-clause-below c =
    let n : ℕ = c.args.n in
    let p : ℕ = c.in-Some.c in
    let used : is_used (plan_of c.args.plan.now) n ≡ true = search rules in
    let from : 1 ≤ n = search rules in
    let within : n ≤ 16 = search rules in
    let first : 1 ≤ p = search rules in
    let last : p ≤ 16 = search rules in
    instants-small c.args.plan.now.values c.args.plan.now.ranged n p c.instant_at.result used
    (c.instant_at.ensures ∙ c.requires.told n p from within first last used)

pub returns-in-None : goal.returns-in-None
unfolding plan_of
returns-in-None c = search rules fits 100

pub returns-in-Some : goal.returns-in-Some
unfolding plan_of
returns-in-Some c = search rules fits 100
