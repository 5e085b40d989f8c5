use Rattle.std.proofs.Common.{ℕ, Bool, not, ◌==◌, sym, ap, ◌∙◌, arith}
use Rattle.std.proofs.lemmas.Bool.{ne_eqb}
use Rattle.tsb_plan.specs.Schedule.{action_of}
use Rattle.tsb_plan.specs.PlanOf.{plan_of}
use Rattle.tsb_review.proofs.LoopLemmas.{any-end, any-found, any-more}
use Rattle.tsb_breaches.proofs.schedules.has_no_events.Goals as goal

pub loop-event-preserved : goal.loop-event-preserved
loop-event-preserved c =
    let f : ℕ → Bool = λ k. not (action_of (plan_of c.args.plan.now) c.args.day_plan k == 0) in
    record {
      whole = sym (any-more f c.loop-event.event 16 (omega arith) (ap (λ (n : ℕ). not (n == 0)) (sym c.action_of.ensures.value ∙ c.if-action_of-ne0.false)))
          ∙ c.loop-event.invariant.whole;
    }

pub returns : goal.returns
returns c =
    let f : ℕ → Bool = λ k. not (action_of (plan_of c.args.plan.now) c.args.day_plan k == 0) in
    ap not (sym (any-end f c.loop-event.event 16 (omega arith)) ∙ c.loop-event.invariant.whole)

pub returns-then-action_of-ne0 : goal.returns-then-action_of-ne0
returns-then-action_of-ne0 c =
    let f : ℕ → Bool = λ k. not (action_of (plan_of c.args.plan.now) c.args.day_plan k == 0) in
    ap not
    (sym (any-found f c.loop-event.event 16 (omega arith) (ap (λ (n : ℕ). not (n == 0)) (sym c.action_of.ensures.value) ∙ ap not (ne_eqb c.action_of.result 0 c.if-action_of-ne0.true)))
    ∙ c.loop-event.invariant.whole)
