use Rattle.std.proofs.Common.{◌≡◌, ◌∙◌, ◌+◌, ◌%◌, ℕ, Option, option_map, sym, ap, ap₂}
use Rattle.tsb_step.specs.tsb_types.declared.event.TheConstants.{FREE}
use Rattle.tsb_step.specs.tsb_types.Lists.{or_number}
use Rattle.tsb_step.specs.tsb_plan.Parts.{cycle}
use Rattle.tsb_step.specs.tsb_plan.Plan.{Plan}
use Rattle.tsb_step.specs.tsb_plan.Running.{running}
use Rattle.tsb_coord.specs.Cells.{pattern_in, correction_in}
use Rattle.tsb_coord.specs.Correction.{clocked, local_now}
use Rattle.tsb_objects.specs.Checked.{checked_plan}
use Rattle.tsb_step.specs.Status.{free_status, global_time, status}
use Rattle.tsb_step.specs.Tick.{runs}
use Rattle.tsb_controller.specs.Layer.{rows_of}
use Rattle.tsb_controller.specs.Rows.{state_of}
use Rattle.tsb_controller.proofs.controller.Controller.pattern_told.Goals as goal

pub returns : goal.returns
unfolding status
returns c b same =
    let rows = rows_of c.args.self.now in
    let running_now : c.running-runs.result ≡ runs (state_of c.args.now b rows) = c.running-runs.ensures.runs ∙ ap (λ (y : Plan). running y (pattern_in rows.pattern)) (sym same) in
    record {
      number = c.number_of.ensures ∙ ap (λ (o : Option ℕ). or_number o FREE) running_now;
      free = c.free_status.ensures ∙ ap₂ free_status running_now c.pattern.ensures;
      local = c.local.ensures ∙ ap (λ (y : Plan). local_now y (pattern_in rows.pattern) (correction_in rows.pattern) c.args.now) (sym same);
      sync = c.sync.ensures
          ∙ ap (λ (k : ℕ). option_map (λ n. k % cycle (checked_plan c.args.plan.now) n) c.running-runs.result) c.clocked.ensures.value
          ∙ ap (λ (y : Plan). option_map (λ n. clocked y (pattern_in rows.pattern) (correction_in rows.pattern) c.args.now % cycle y n) c.running-runs.result) (sym same)
          ∙ ap (λ (o : Option ℕ). option_map (λ n. clocked b.plan (pattern_in rows.pattern) (correction_in rows.pattern) c.args.now % cycle b.plan n) o) running_now;
      time = c.time.ensures ∙ ap (option_map (λ m. global_time (m + c.args.now))) c.start.ensures.value;
    }
