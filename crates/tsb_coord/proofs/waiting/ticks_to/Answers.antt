use Rattle.std.proofs.Common.{ℕ, ◌+◌, ◌-◌, ◌%◌, ◌<◌, Option, Some, inl, inr, ap, ◌∙◌, rules, arith}
use Rattle.tsb_coord.specs.Coordinated.{agree}
use Rattle.tsb_coord.proofs.SpanLemmas.{not_yet, met_later, met_next}
use Rattle.tsb_coord.proofs.waiting.ticks_to.Goals as goal

pub returns-else-local-instant-2-clause-quiet : goal.returns-else-local-instant-2-clause-quiet
returns-else-local-instant-2-clause-quiet c =
    λ k before some. let earlier : c.in-Some.instant < c.args.local = omega arith in
    ap (λ (o : Option ℕ). agree (Some ((c.args.local + k) % c.args.cycle)) o) c.in-Some.is
    ∙ not_yet c.args.cycle c.args.local c.in-Some.instant k earlier c.requires.local before

pub returns-then-local-instant-2-clause-met : goal.returns-then-local-instant-2-clause-met
returns-then-local-instant-2-clause-met c =
    let below : c.in-Some.instant < c.args.cycle = search rules in
    inr (inl (ap (λ (o : Option ℕ). agree (Some ((c.args.local + (c.in-Some.instant - c.args.local)) % c.args.cycle)) o) c.in-Some.is
    ∙ met_later c.args.cycle c.args.local c.in-Some.instant c.if-local-instant-2.true below))

pub returns-else-local-instant-2-clause-met : goal.returns-else-local-instant-2-clause-met
returns-else-local-instant-2-clause-met c =
    let earlier : c.in-Some.instant < c.args.local = omega arith in
    inr (inl (ap (λ (o : Option ℕ). agree (Some ((c.args.local + (c.in-Some.instant + c.args.cycle - c.args.local)) % c.args.cycle)) o) c.in-Some.is
    ∙ met_next c.args.cycle c.args.local c.in-Some.instant (omega (arith, earlier)) c.requires.local))
