use Rattle.std.proofs.Common.{◌≡◌, ℕ, Bool, true, false, ◌==◌, ◌||◌, sym, ◌∙◌, arith}
use Rattle.tsb_plan.specs.Schedule.{action_of}
use Rattle.tsb_plan.specs.PlanOf.{plan_of}
use Rattle.tsb_rules.specs.ScheduleRules.{is_apart}
use Rattle.tsb_rules.proofs.RuleLemmas.{all-on, all-off, all-end, or-on, unless-used, where-used}
use Rattle.tsb_rules.proofs.rules.schedules.are_apart.Goals.{else-action_of-ne0-via-then-action_of-ne0+else-not-is_apart, else-action_of-ne0-via-else-action_of-ne0}
use Rattle.tsb_rules.proofs.rules.schedules.are_apart.Goals as goal

pub returns-then-not-is_apart : goal.returns-then-not-is_apart
returns-then-not-is_apart c =
    let f : ℕ → Bool = λ k. action_of (plan_of c.args.plan.now) c.args.day_plan k == 0 || is_apart (plan_of c.args.plan.now) c.args.day_plan k in
    let off : f c.loop-event.event ≡ false =
    where-used (action_of (plan_of c.args.plan.now) c.args.day_plan c.loop-event.event) (is_apart (plan_of c.args.plan.now) c.args.day_plan c.loop-event.event) (λ e. c.if-action_of-ne0.true (c.action_of.ensures.value ∙ e)) ∙ sym c.is_apart.ensures ∙ c.if-not-is_apart.true in
    sym (all-off f c.loop-event.event 16 (omega arith) off) ∙ c.loop-event.invariant.whole

pub loop-event-preserved : goal.loop-event-preserved
loop-event-preserved c =
    let f : ℕ → Bool = λ k. action_of (plan_of c.args.plan.now) c.args.day_plan k == 0 || is_apart (plan_of c.args.plan.now) c.args.day_plan k in
    let on : f c.loop-event.event ≡ true =
    elim c.else-action_of-ne0.branch [
      | else-action_of-ne0-via-then-action_of-ne0+else-not-is_apart w ↦ or-on (action_of (plan_of c.args.plan.now) c.args.day_plan c.loop-event.event == 0) (is_apart (plan_of c.args.plan.now) c.args.day_plan c.loop-event.event) (sym w.is_apart.ensures ∙ w.if-not-is_apart.false)
      | else-action_of-ne0-via-else-action_of-ne0 w ↦ unless-used (action_of (plan_of c.args.plan.now) c.args.day_plan c.loop-event.event) (is_apart (plan_of c.args.plan.now) c.args.day_plan c.loop-event.event) (sym c.action_of.ensures.value ∙ w.if-action_of-ne0.false)
    ] in
    record {
      whole = all-on f c.loop-event.event 16 (omega arith) on ∙ c.loop-event.invariant.whole;
    }

pub returns : goal.returns
returns c =
    let f : ℕ → Bool = λ k. action_of (plan_of c.args.plan.now) c.args.day_plan k == 0 || is_apart (plan_of c.args.plan.now) c.args.day_plan k in
    sym (all-end f c.loop-event.event 16 (omega arith)) ∙ c.loop-event.invariant.whole
