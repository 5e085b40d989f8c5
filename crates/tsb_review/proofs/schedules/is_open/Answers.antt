use Rattle.std.proofs.Common.{◌∙◌, ℕ, Bool, true, false, not, ◌-◌, sym, ap, arith}
use Rattle.tsb_plan.specs.PlanOf.{plan_of}
use Rattle.tsb_review.specs.Schedules.{covers}
use Rattle.tsb_review.proofs.LoopLemmas.{any-end, any-found, any-more}
use Rattle.tsb_review.proofs.schedules.is_open.Goals as goal

pub loop-entry-preserved : goal.loop-entry-preserved
loop-entry-preserved c =
    let f : ℕ → Bool = covers (plan_of c.args.plan.now) c.args.month c.args.day c.args.weekday in
    record { whole = sym (any-more f c.loop-entry.entry 32 (omega arith) (sym c.covers.ensures ∙ c.if-covers.false)) ∙ c.loop-entry.invariant.whole }

pub returns : goal.returns
returns c =
    let f : ℕ → Bool = covers (plan_of c.args.plan.now) c.args.month c.args.day c.args.weekday in
    ap not (sym (any-end f c.loop-entry.entry 32 (omega arith)) ∙ c.loop-entry.invariant.whole)

pub returns-then-covers : goal.returns-then-covers
returns-then-covers c =
    let f : ℕ → Bool = covers (plan_of c.args.plan.now) c.args.month c.args.day c.args.weekday in
    ap not (sym (any-found f c.loop-entry.entry 32 (omega arith) (sym c.covers.ensures ∙ c.if-covers.true)) ∙ c.loop-entry.invariant.whole)
