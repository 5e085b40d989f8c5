use Rattle.std.proofs.Common.{◌∙◌, refl, sym}
use Rattle.tsb_objects.specs.Checked.{checked_plan}
use Rattle.tsb_controller.specs.Layer.{rows_of}
use Rattle.tsb_controller.proofs.OverlapLemmas.{runs-idle}
use Rattle.tsb_controller.proofs.controller.Controller.run_on.Goals as goal

pub returns-then-is_empty-clause-run_on : goal.returns-then-is_empty-clause-run_on
returns-then-is_empty-clause-run_on c =
    runs-idle c.args.now c.args.sensed.now (checked_plan c.args.plan.now) (rows_of c.args.self.now) c.empty.result c.requires.begun
    (λ o. sym (c.timed_overlaps.ensures o) ∙ c.is_empty.ensures.none c.if-is_empty.true o) c.requires.overlaps_by c.empty.ensures

pub returns-clause-run_on : goal.returns-clause-run_on
returns-clause-run_on c = record {
  state = rw c.is_some.ensures at c.run_on.ensures.state;
  omitted = c.run_on.ensures.omitted;
  holding = rw c.is_some.ensures at c.run_on.ensures.held;
  overlaps_by = c.run_on.ensures.by;
  rest = refl;
}
