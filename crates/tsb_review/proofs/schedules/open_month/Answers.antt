use Rattle.std.proofs.Common.{◌∙◌, ℕ, Bool, true, false, ◌-◌, sym, ap, arith, is_some}
use Rattle.tsb_plan.specs.PlanOf.{plan_of}
use Rattle.tsb_review.specs.Schedules.{open_date}
use Rattle.tsb_review.proofs.LoopLemmas.{first-end, first-found, first-more}
use Rattle.tsb_review.proofs.schedules.open_month.Goals as goal

pub loop-month-preserved : goal.loop-month-preserved
loop-month-preserved c =
    let f : ℕ → Bool = λ m. is_some (open_date (plan_of c.args.plan.now) m) in
    record { whole = sym (first-more f c.loop-month.month 12 (omega arith) (ap is_some (sym c.open_date.ensures.value) ∙ sym c.is_some.ensures ∙ c.if-is_some.false)) ∙ c.loop-month.invariant.whole }

pub returns-clause-value : goal.returns-clause-value
returns-clause-value c =
    let f : ℕ → Bool = λ m. is_some (open_date (plan_of c.args.plan.now) m) in
    sym (first-end f c.loop-month.month 12 (omega arith)) ∙ c.loop-month.invariant.whole

pub returns-then-is_some-clause-value : goal.returns-then-is_some-clause-value
returns-then-is_some-clause-value c =
    let f : ℕ → Bool = λ m. is_some (open_date (plan_of c.args.plan.now) m) in
    sym (first-found f c.loop-month.month 12 (omega arith) (ap is_some (sym c.open_date.ensures.value) ∙ sym c.is_some.ensures ∙ c.if-is_some.true)) ∙ c.loop-month.invariant.whole
