use Rattle.std.proofs.Common.{◌≡◌, ◌∙◌, ℕ, ◌+◌, ◌-◌, ap, sym, arith}
use Rattle.tsb_step.specs.tsb_types.declared.flow.Intervals.{Intervals}
use Rattle.tsb_step.specs.tsb_types.declared.phase_set.PhaseSet.{PhaseSet}
use Rattle.tsb_step.specs.tsb_types.Sets.{set_of_list}
use Rattle.tsb_objects.specs.Checked.{checked_plan}
use Rattle.tsb_preempt.specs.Cells.{preempts_in}
use Rattle.tsb_controller.specs.Rows.{state_of}
use Rattle.tsb_controller.specs.Layer.{rows_of}
use Rattle.tsb_controller.proofs.EndingLemmas.{served-alike}
use Rattle.tsb_controller.proofs.controller.Controller.is_served.Goals as goal

pub returns : goal.returns
returns c now b same at =
    let s = state_of now b (rows_of c.args.self.now) in
    let here : c.args.clock + 1 - 1 ≡ c.args.clock = omega arith in
    let cells = (rows_of c.args.self.now).preempts in
    c.is_served.ensures none
    ∙ served-alike (checked_plan c.args.plan.now) c.args.row.now none s (c.args.clock + 1 - 1) cells (ap (λ (n : ℕ). preempts_in n cells) (here ∙ sym at))
  where
    empty : PhaseSet
    empty = record { numbers = set_of_list 0 }

    none : Intervals
    none = record { green = empty; yellow = empty; red_clear = empty }
