use Rattle.std.proofs.Common.{◌≡◌, ℕ, Bool, true, false, not, ◌==◌, ◌||◌, sym, ap, ◌∙◌, arith}
use Rattle.std.proofs.lemmas.Bool.{ne_eqb}
use Rattle.tsb_plan.specs.Schedule.{action_of, asked_by}
use Rattle.tsb_plan.specs.PlanOf.{plan_of}
use Rattle.tsb_rules.specs.ScheduleRules.{is_defined}
use Rattle.tsb_rules.proofs.RuleLemmas.{all-on, all-off, all-end, or-on, unless-used, where-used}
use Rattle.tsb_rules.proofs.rules.schedules.names_defined.Goals.{else-action-ne0-via-then-action-ne0+else-asked_by-eq0, else-action-ne0-via-else-action-ne0}
use Rattle.tsb_rules.proofs.rules.schedules.names_defined.Goals as goal

pub returns-then-asked_by-eq0 : goal.returns-then-asked_by-eq0
returns-then-asked_by-eq0 c =
    let f : ℕ → Bool = λ k. action_of (plan_of c.args.plan.now) c.args.day_plan k == 0 || is_defined (plan_of c.args.plan.now) (action_of (plan_of c.args.plan.now) c.args.day_plan k) in
    let asked : asked_by (plan_of c.args.plan.now) (action_of (plan_of c.args.plan.now) c.args.day_plan c.loop-event.event) ≡ c.asked_by.result = ap (asked_by (plan_of c.args.plan.now)) (sym c.action_of-action.ensures.value) ∙ sym c.asked_by.ensures.value in
    let off : f c.loop-event.event ≡ false =
    where-used (action_of (plan_of c.args.plan.now) c.args.day_plan c.loop-event.event) (is_defined (plan_of c.args.plan.now) (action_of (plan_of c.args.plan.now) c.args.day_plan c.loop-event.event)) (λ e. c.if-action-ne0.true (c.action_of-action.ensures.value ∙ e))
    ∙ ap (λ (n : ℕ). not (n == 0)) (asked ∙ c.if-asked_by-eq0.true) in
    sym (all-off f c.loop-event.event 16 (omega arith) off) ∙ c.loop-event.invariant.whole

pub loop-event-preserved : goal.loop-event-preserved
loop-event-preserved c =
    let f : ℕ → Bool = λ k. action_of (plan_of c.args.plan.now) c.args.day_plan k == 0 || is_defined (plan_of c.args.plan.now) (action_of (plan_of c.args.plan.now) c.args.day_plan k) in
    let on : f c.loop-event.event ≡ true =
    elim c.else-action-ne0.branch [
      | else-action-ne0-via-then-action-ne0+else-asked_by-eq0 w ↦
          let asked : asked_by (plan_of c.args.plan.now) (action_of (plan_of c.args.plan.now) c.args.day_plan c.loop-event.event) ≡ w.asked_by.result = ap (asked_by (plan_of c.args.plan.now)) (sym c.action_of-action.ensures.value) ∙ sym w.asked_by.ensures.value in
          or-on (action_of (plan_of c.args.plan.now) c.args.day_plan c.loop-event.event == 0) (is_defined (plan_of c.args.plan.now) (action_of (plan_of c.args.plan.now) c.args.day_plan c.loop-event.event)) (ap (λ (n : ℕ). not (n == 0)) asked ∙ ap not (ne_eqb w.asked_by.result 0 w.if-asked_by-eq0.false))
      | else-action-ne0-via-else-action-ne0 w ↦ unless-used (action_of (plan_of c.args.plan.now) c.args.day_plan c.loop-event.event) (is_defined (plan_of c.args.plan.now) (action_of (plan_of c.args.plan.now) c.args.day_plan c.loop-event.event)) (sym c.action_of-action.ensures.value ∙ w.if-action-ne0.false)
    ] in
    record {
      whole = all-on f c.loop-event.event 16 (omega arith) on ∙ c.loop-event.invariant.whole;
    }

pub returns : goal.returns
returns c =
    let f : ℕ → Bool = λ k. action_of (plan_of c.args.plan.now) c.args.day_plan k == 0 || is_defined (plan_of c.args.plan.now) (action_of (plan_of c.args.plan.now) c.args.day_plan k) in
    sym (all-end f c.loop-event.event 16 (omega arith)) ∙ c.loop-event.invariant.whole
