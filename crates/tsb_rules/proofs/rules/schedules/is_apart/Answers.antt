use Rattle.std.proofs.Common.{◌≡◌, ℕ, ◌-◌, ◌≤◌, Bool, true, false, not, nat_le, ◌==◌, ◌||◌, sym, ap, ◌∙◌, arith}
use Rattle.std.proofs.lemmas.Bool.{eq-eqb, ne_eqb}
use Rattle.std.proofs.lemmas.Bool.Decides.{nat_tests}
use Rattle.tsb_plan.specs.Schedule.{action_of, time_of}
use Rattle.tsb_plan.specs.PlanOf.{plan_of}
use Rattle.tsb_rules.proofs.RuleLemmas.{all-on, all-off, or-on, unless-used, where-used}
use Rattle.tsb_types.proofs.RunLemmas.{all-run_from}
use Rattle.tsb_rules.proofs.rules.schedules.is_apart.Goals.{else-action_of-ne0-via-then-action_of-ne0+else-time_of, else-action_of-ne0-via-else-action_of-ne0}
use Rattle.tsb_rules.proofs.rules.schedules.is_apart.Goals as goal

pub returns-then-time_of : goal.returns-then-time_of
returns-then-time_of c =
    let f : ℕ → Bool = λ j. action_of (plan_of c.args.plan.now) c.args.day_plan j == 0 || (nat_le c.args.event j || not (time_of (plan_of c.args.plan.now) c.args.day_plan j == time_of (plan_of c.args.plan.now) c.args.day_plan c.args.event)) in
    let low : nat_le c.args.event c.loop-lower.lower ≡ false = grind (arith, nat_tests, c.loop-lower-test.true) in
    let same : time_of (plan_of c.args.plan.now) c.args.day_plan c.loop-lower.lower ≡ time_of (plan_of c.args.plan.now) c.args.day_plan c.args.event = sym c.time_of.ensures.value ∙ c.if-time_of.true ∙ c.time_of-then-action_of-ne0.ensures.value in
    let off : f c.loop-lower.lower ≡ false =
    where-used (action_of (plan_of c.args.plan.now) c.args.day_plan c.loop-lower.lower) (nat_le c.args.event c.loop-lower.lower || not (time_of (plan_of c.args.plan.now) c.args.day_plan c.loop-lower.lower == time_of (plan_of c.args.plan.now) c.args.day_plan c.args.event)) (λ e. c.if-action_of-ne0.true (c.action_of.ensures.value ∙ e))
    ∙ ap (λ (t : Bool). t || not (time_of (plan_of c.args.plan.now) c.args.day_plan c.loop-lower.lower == time_of (plan_of c.args.plan.now) c.args.day_plan c.args.event)) low
    ∙ ap not (eq-eqb (time_of (plan_of c.args.plan.now) c.args.day_plan c.loop-lower.lower) (time_of (plan_of c.args.plan.now) c.args.day_plan c.args.event) same) in
    sym (all-off f c.loop-lower.lower 16 (omega arith) off) ∙ c.loop-lower.invariant.whole

pub loop-lower-preserved : goal.loop-lower-preserved
loop-lower-preserved c =
    let f : ℕ → Bool = λ j. action_of (plan_of c.args.plan.now) c.args.day_plan j == 0 || (nat_le c.args.event j || not (time_of (plan_of c.args.plan.now) c.args.day_plan j == time_of (plan_of c.args.plan.now) c.args.day_plan c.args.event)) in
    let on : f c.loop-lower.lower ≡ true =
    elim c.else-action_of-ne0.branch [
      | else-action_of-ne0-via-then-action_of-ne0+else-time_of w ↦
          or-on (action_of (plan_of c.args.plan.now) c.args.day_plan c.loop-lower.lower == 0) (nat_le c.args.event c.loop-lower.lower || not (time_of (plan_of c.args.plan.now) c.args.day_plan c.loop-lower.lower == time_of (plan_of c.args.plan.now) c.args.day_plan c.args.event))
          (or-on (nat_le c.args.event c.loop-lower.lower) (not (time_of (plan_of c.args.plan.now) c.args.day_plan c.loop-lower.lower == time_of (plan_of c.args.plan.now) c.args.day_plan c.args.event))
          (ap not (ne_eqb (time_of (plan_of c.args.plan.now) c.args.day_plan c.loop-lower.lower) (time_of (plan_of c.args.plan.now) c.args.day_plan c.args.event) (λ e. w.if-time_of.false (w.time_of.ensures.value ∙ e ∙ sym w.time_of-then-action_of-ne0.ensures.value)))))
      | else-action_of-ne0-via-else-action_of-ne0 w ↦ unless-used (action_of (plan_of c.args.plan.now) c.args.day_plan c.loop-lower.lower) (nat_le c.args.event c.loop-lower.lower || not (time_of (plan_of c.args.plan.now) c.args.day_plan c.loop-lower.lower == time_of (plan_of c.args.plan.now) c.args.day_plan c.args.event)) (sym c.action_of.ensures.value ∙ w.if-action_of-ne0.false)
    ] in
    record {
      whole = all-on f c.loop-lower.lower 16 (omega arith) on ∙ c.loop-lower.invariant.whole;
    }

pub returns : goal.returns
returns c =
    let f : ℕ → Bool = λ j. action_of (plan_of c.args.plan.now) c.args.day_plan j == 0 || (nat_le c.args.event j || not (time_of (plan_of c.args.plan.now) c.args.day_plan j == time_of (plan_of c.args.plan.now) c.args.day_plan c.args.event)) in
    let each : (k : ℕ) → c.loop-lower.lower ≤ k → f k ≡ true = λ k from.
    let high : nat_le c.args.event k ≡ true = grind (arith, nat_tests, from, c.loop-lower-test.false) in
    or-on (action_of (plan_of c.args.plan.now) c.args.day_plan k == 0) (nat_le c.args.event k || not (time_of (plan_of c.args.plan.now) c.args.day_plan k == time_of (plan_of c.args.plan.now) c.args.day_plan c.args.event)) (ap (λ (t : Bool). t || not (time_of (plan_of c.args.plan.now) c.args.day_plan k == time_of (plan_of c.args.plan.now) c.args.day_plan c.args.event)) high) in
    sym (all-run_from f c.loop-lower.lower (17 - c.loop-lower.lower) (λ k from below. each k from)) ∙ c.loop-lower.invariant.whole
