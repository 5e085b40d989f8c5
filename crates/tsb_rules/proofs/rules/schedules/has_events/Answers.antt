use Rattle.std.proofs.Common.{◌≡◌, ℕ, Bool, true, false, not, ◌==◌, ◌||◌, List, sym, ap, ◌∙◌, ◌+◌, ◌-◌, arith}
use Rattle.std.proofs.lemmas.Bool.{ne_eqb}
use Rattle.std.specs.List.{list_any}
use Rattle.tsb_types.specs.Lists.{run_from}
use Rattle.tsb_plan.specs.Schedule.{action_of}
use Rattle.tsb_plan.specs.PlanOf.{plan_of}
use Rattle.tsb_plan.proofs.RunStepLemmas.{run-first, run-none}
use Rattle.tsb_rules.proofs.rules.schedules.has_events.Goals as goal

pub returns-then-action_of-ne0 : goal.returns-then-action_of-ne0
returns-then-action_of-ne0 c =
    let f : ℕ → Bool = λ k. not (action_of (plan_of c.args.plan.now) c.args.day_plan k == 0) in
    let rest : List ℕ = run_from (c.loop-event.event + 1) (16 + 1 - (c.loop-event.event + 1)) in
    let on : f c.loop-event.event ≡ true = ap (λ (n : ℕ). not (n == 0)) (sym c.action_of.ensures.value) ∙ ap not (ne_eqb c.action_of.result 0 c.if-action_of-ne0.true) in
    sym (sym c.loop-event.invariant.whole
    ∙ ap (λ (ks : List ℕ). list_any f ks) (run-first c.loop-event.event 16 (omega arith))
    ∙ ap (λ (b : Bool). b || list_any f rest) on)

pub loop-event-preserved : goal.loop-event-preserved
loop-event-preserved c =
    let f : ℕ → Bool = λ k. not (action_of (plan_of c.args.plan.now) c.args.day_plan k == 0) in
    let rest : List ℕ = run_from (c.loop-event.event + 1) (16 + 1 - (c.loop-event.event + 1)) in
    let off : f c.loop-event.event ≡ false = ap (λ (n : ℕ). not (n == 0)) (sym c.action_of.ensures.value ∙ c.if-action_of-ne0.false) in
    record {
      whole = sym (ap (λ (ks : List ℕ). list_any f ks) (run-first c.loop-event.event 16 (omega arith)) ∙ ap (λ (b : Bool). b || list_any f rest) off)
          ∙ c.loop-event.invariant.whole;
    }

pub returns : goal.returns
returns c =
    let f : ℕ → Bool = λ k. not (action_of (plan_of c.args.plan.now) c.args.day_plan k == 0) in
    sym (ap (λ (ks : List ℕ). list_any f ks) (run-none c.loop-event.event 16 (omega arith))) ∙ c.loop-event.invariant.whole
