use Rattle.std.proofs.Common.{◌∙◌, ℕ, Bool, true, false, ◌-◌, sym, ap, arith, is_some}
use Rattle.tsb_types.specs.Lists.{first, run_from}
use Rattle.tsb_plan.specs.PlanOf.{plan_of}
use Rattle.tsb_review.specs.Schedules.{open_weekday}
use Rattle.tsb_review.proofs.LoopLemmas.{first-end, first-found, first-more}
use Rattle.tsb_review.proofs.schedules.open_date.Goals as goal

pub loop-day-preserved : goal.loop-day-preserved
loop-day-preserved c =
    let f : ℕ → Bool = λ d. is_some (open_weekday (plan_of c.args.plan.now) c.args.month d) in
    record { whole = sym (first-more f c.loop-day.day c.length_of-length.result (omega arith) (ap is_some (sym c.open_weekday.ensures) ∙ sym c.is_some.ensures ∙ c.if-is_some.false)) ∙ c.loop-day.invariant.whole }

pub returns-clause-value : goal.returns-clause-value
returns-clause-value c =
    let f : ℕ → Bool = λ d. is_some (open_weekday (plan_of c.args.plan.now) c.args.month d) in
    sym (first-end f c.loop-day.day c.length_of-length.result (omega arith)) ∙ c.loop-day.invariant.whole ∙ ap (λ (n : ℕ). first f (run_from 1 n)) c.length_of-length.ensures.value

pub returns-then-is_some-clause-value : goal.returns-then-is_some-clause-value
returns-then-is_some-clause-value c =
    let f : ℕ → Bool = λ d. is_some (open_weekday (plan_of c.args.plan.now) c.args.month d) in
    sym (first-found f c.loop-day.day c.length_of-length.result (omega arith) (ap is_some (sym c.open_weekday.ensures) ∙ sym c.is_some.ensures ∙ c.if-is_some.true)) ∙ c.loop-day.invariant.whole ∙ ap (λ (n : ℕ). first f (run_from 1 n)) c.length_of-length.ensures.value
