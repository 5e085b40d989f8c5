use Rattle.std.proofs.Common.{◌∙◌, ℕ, Bool, true, false, ◌-◌, sym, arith}
use Rattle.std.specs.List.{list_any}
use Rattle.tsb_types.specs.Lists.{run_from}
use Rattle.tsb_plan.specs.PlanOf.{plan_of}
use Rattle.tsb_review.specs.Schedules.{selects}
use Rattle.tsb_review.proofs.LoopLemmas.{any-end, any-found, any-more}
use Rattle.tsb_review.proofs.schedules.is_selected.Goals as goal

pub loop-day_plan-preserved : goal.loop-day_plan-preserved
loop-day_plan-preserved c =
    let f : ℕ → Bool = λ d. list_any (selects (plan_of c.args.plan.now) c.args.pattern d) (run_from 1 16) in
    record { whole = sym (any-more f c.loop-day_plan.day_plan 16 (omega arith) (sym c.is_selected_in.ensures ∙ c.if-is_selected_in.false)) ∙ c.loop-day_plan.invariant.whole }

pub returns : goal.returns
returns c =
    let f : ℕ → Bool = λ d. list_any (selects (plan_of c.args.plan.now) c.args.pattern d) (run_from 1 16) in
    sym (any-end f c.loop-day_plan.day_plan 16 (omega arith)) ∙ c.loop-day_plan.invariant.whole

pub returns-then-is_selected_in : goal.returns-then-is_selected_in
returns-then-is_selected_in c =
    let f : ℕ → Bool = λ d. list_any (selects (plan_of c.args.plan.now) c.args.pattern d) (run_from 1 16) in
    sym (any-found f c.loop-day_plan.day_plan 16 (omega arith) (sym c.is_selected_in.ensures ∙ c.if-is_selected_in.true)) ∙ c.loop-day_plan.invariant.whole
