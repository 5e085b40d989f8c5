use Rattle.std.proofs.Common.{◌≡◌, ◌∙◌, ℕ, Option, sym, ap, ap₂}
use Rattle.tsb_step.specs.tsb_plan.declared.object.Object.TheVariants.{PatternCycleTime, PatternOffsetTime, SplitTime}
use Rattle.tsb_step.specs.tsb_plan.Parts.{split_index}
use Rattle.tsb_step.specs.tsb_plan.Plan.{Plan}
use Rattle.tsb_step.specs.tsb_plan.PlanOf.{plan_of}
use Rattle.tsb_step.specs.tsb_plan.Running.{running, split_in_effect}
use Rattle.tsb_step.specs.Events.{or_zero, selected}
use Rattle.tsb_controller.specs.Layer.{rows_of}
use Rattle.tsb_controller.specs.Rows.{state_of}
use Rattle.tsb_controller.proofs.controller.Controller.selected.Goals as goal

pub returns : goal.returns
unfolding selected
returns c now b same =
    let pattern : Option ℕ = (state_of now b (rows_of c.args.self.now)).pattern in
    -- what a plan says of the pattern that runs, said of the plan beside the rows
    let plan : plan_of c.plan.result.now ≡ b.plan = c.plan.ensures.plan ∙ sym same in
    let plan_3 : plan_of c.plan-2.result.now ≡ b.plan = c.plan-2.ensures.plan ∙ sym same in
    let plan_4 : plan_of c.plan-3.result.now ≡ b.plan = c.plan-3.ensures.plan ∙ sym same in
    let plan_5 : plan_of c.plan-4.result.now ≡ b.plan = c.plan-4.ensures.plan ∙ sym same in
    let runs : c.running-runs.result ≡ running b.plan pattern = c.running-runs.ensures.runs ∙ ap (λ (x : Plan). running x pattern) (sym same) in
    let table : c.table_of-table.result ≡ split_in_effect b.plan (running b.plan pattern) = c.table_of-table.ensures ∙ ap₂ split_in_effect plan runs in
    record {
      pattern = c.pattern.ensures;
      cycle = c.cycle_of.ensures ∙ ap₂ (λ (x : Plan) (o : Option ℕ). or_zero o (λ n. x.value PatternCycleTime n)) plan_3 runs;
      offset = c.offset_of.ensures ∙ ap₂ (λ (x : Plan) (o : Option ℕ). or_zero o (λ n. x.value PatternOffsetTime n)) plan_4 runs;
      split = λ p from to. c.splits_of.ensures p from to
          ∙ ap₂ (λ (x : Plan) (o : Option ℕ). or_zero o (λ t. x.value SplitTime (split_index x t p))) plan_5 table;
    }
