use Rattle.std.proofs.Common.{◌∙◌, ℕ, Bool, true, false, ◌-◌, sym, arith}
use Rattle.tsb_plan.specs.PlanOf.{plan_of}
use Rattle.tsb_review.specs.Schedules.{selects}
use Rattle.tsb_review.proofs.LoopLemmas.{any-end, any-found, any-more}
use Rattle.tsb_review.proofs.schedules.is_selected_in.Goals as goal

pub loop-event-preserved : goal.loop-event-preserved
loop-event-preserved c =
    let f : ℕ → Bool = selects (plan_of c.args.plan.now) c.args.pattern c.args.day_plan in
    record { whole = sym (any-more f c.loop-event.event 16 (omega arith) (sym c.selects.ensures ∙ c.if-selects.false)) ∙ c.loop-event.invariant.whole }

pub returns : goal.returns
returns c =
    let f : ℕ → Bool = selects (plan_of c.args.plan.now) c.args.pattern c.args.day_plan in
    sym (any-end f c.loop-event.event 16 (omega arith)) ∙ c.loop-event.invariant.whole

pub returns-then-selects : goal.returns-then-selects
returns-then-selects c =
    let f : ℕ → Bool = selects (plan_of c.args.plan.now) c.args.pattern c.args.day_plan in
    sym (any-found f c.loop-event.event 16 (omega arith) (sym c.selects.ensures ∙ c.if-selects.true)) ∙ c.loop-event.invariant.whole
