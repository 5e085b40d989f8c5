use Rattle.std.proofs.Common.{◌∙◌, ℕ, Bool, true, false, ◌-◌, sym, arith}
use Rattle.tsb_plan.specs.PlanOf.{plan_of}
use Rattle.tsb_review.specs.Schedules.{comes_soon}
use Rattle.tsb_review.proofs.LoopLemmas.{any-end, any-found, any-more}
use Rattle.tsb_review.proofs.schedules.has_soon.Goals as goal

pub loop-next-preserved : goal.loop-next-preserved
loop-next-preserved c =
    let f : ℕ → Bool = comes_soon (plan_of c.args.plan.now) c.args.day_plan c.args.event in
    record { whole = sym (any-more f c.loop-next.next 16 (omega arith) (sym c.comes_soon.ensures ∙ c.if-comes_soon.false)) ∙ c.loop-next.invariant.whole }

pub returns : goal.returns
returns c =
    let f : ℕ → Bool = comes_soon (plan_of c.args.plan.now) c.args.day_plan c.args.event in
    sym (any-end f c.loop-next.next 16 (omega arith)) ∙ c.loop-next.invariant.whole

pub returns-then-comes_soon : goal.returns-then-comes_soon
returns-then-comes_soon c =
    let f : ℕ → Bool = comes_soon (plan_of c.args.plan.now) c.args.day_plan c.args.event in
    sym (any-found f c.loop-next.next 16 (omega arith) (sym c.comes_soon.ensures ∙ c.if-comes_soon.true)) ∙ c.loop-next.invariant.whole
