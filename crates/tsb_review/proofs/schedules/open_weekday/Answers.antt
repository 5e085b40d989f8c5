use Rattle.std.proofs.Common.{◌∙◌, ℕ, Bool, true, false, ◌-◌, sym, arith}
use Rattle.tsb_plan.specs.PlanOf.{plan_of}
use Rattle.tsb_review.specs.Schedules.{is_open}
use Rattle.tsb_review.proofs.LoopLemmas.{first-end, first-found, first-more}
use Rattle.tsb_review.proofs.schedules.open_weekday.Goals as goal

pub loop-weekday-preserved : goal.loop-weekday-preserved
loop-weekday-preserved c =
    let f : ℕ → Bool = is_open (plan_of c.args.plan.now) c.args.month c.args.day in
    record { whole = sym (first-more f c.loop-weekday.weekday 7 (omega arith) (sym c.is_open.ensures ∙ c.if-is_open.false)) ∙ c.loop-weekday.invariant.whole }

pub returns : goal.returns
returns c =
    let f : ℕ → Bool = is_open (plan_of c.args.plan.now) c.args.month c.args.day in
    sym (first-end f c.loop-weekday.weekday 7 (omega arith)) ∙ c.loop-weekday.invariant.whole

pub returns-then-is_open : goal.returns-then-is_open
returns-then-is_open c =
    let f : ℕ → Bool = is_open (plan_of c.args.plan.now) c.args.month c.args.day in
    sym (first-found f c.loop-weekday.weekday 7 (omega arith) (sym c.is_open.ensures ∙ c.if-is_open.true)) ∙ c.loop-weekday.invariant.whole
