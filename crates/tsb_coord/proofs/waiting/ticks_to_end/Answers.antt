use Rattle.std.proofs.Common.{ℕ, ◌+◌, ◌-◌, ◌%◌, ◌<◌, ◌≤◌, Option, Some, inr, ap, ◌∙◌, rules, arith}
use Rattle.tsb_coord.specs.Coordinated.{agree}
use Rattle.tsb_coord.proofs.SpanLemmas.{not_before, not_again, met_later, met_next}
use Rattle.tsb_coord.proofs.waiting.ticks_to_end.Goals as goal

pub returns-then-local-end-clause-quiet : goal.returns-then-local-end-clause-quiet
returns-then-local-end-clause-quiet c =
    λ k some before.
    let below : c.in-Some.end < c.args.cycle = search rules in
    ap (λ (o : Option ℕ). agree (Some ((c.args.local + k) % c.args.cycle)) o) c.in-Some.is
    ∙ not_before c.args.cycle c.args.local c.in-Some.end k c.if-local-end.true below before

pub returns-else-local-end-clause-quiet : goal.returns-else-local-end-clause-quiet
returns-else-local-end-clause-quiet c =
    λ k some before. let earlier : c.in-Some.end ≤ c.args.local = omega arith in
    ap (λ (o : Option ℕ). agree (Some ((c.args.local + k) % c.args.cycle)) o) c.in-Some.is
    ∙ not_again c.args.cycle c.args.local c.in-Some.end k earlier c.requires.local some before

pub returns-then-local-end-clause-met : goal.returns-then-local-end-clause-met
returns-then-local-end-clause-met c =
    let below : c.in-Some.end < c.args.cycle = search rules in
    inr (ap (λ (o : Option ℕ). agree (Some ((c.args.local + (c.in-Some.end - c.args.local)) % c.args.cycle)) o) c.in-Some.is
    ∙ met_later c.args.cycle c.args.local c.in-Some.end c.if-local-end.true below)

pub returns-else-local-end-clause-met : goal.returns-else-local-end-clause-met
returns-else-local-end-clause-met c =
    let earlier : c.in-Some.end ≤ c.args.local = omega arith in
    inr (ap (λ (o : Option ℕ). agree (Some ((c.args.local + (c.in-Some.end + c.args.cycle - c.args.local)) % c.args.cycle)) o) c.in-Some.is
    ∙ met_next c.args.cycle c.args.local c.in-Some.end earlier c.requires.local)
