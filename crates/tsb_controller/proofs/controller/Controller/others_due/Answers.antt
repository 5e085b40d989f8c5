use Rattle.std.proofs.Common.{◌<◌, arith}
use Rattle.tsb_objects.specs.Checked.{checked_plan}
use Rattle.tsb_controller.specs.Layer.{rows_of}
use Rattle.tsb_controller.proofs.OverlapLemmas.{still-sooner}
use Rattle.tsb_controller.proofs.controller.Controller.others_due.Goals as goal

pub returns-clause-still : goal.returns-clause-still
returns-clause-still c = record {
  intervals = c.intervals-intervals.result;
  shown = c.intervals-intervals.ensures;
  greens = c.new-greens.result;
  greens_are = c.new-greens.ensures.phases;
  since_are = rw c.new-greens.ensures.since c.since.ensures.told;
  detectors = λ t greens behind before. (let early : t < c.due-detectors.result = omega arith in c.due-detectors.ensures.quiet t greens behind early);
  preempts = λ t behind before. (let early : t < c.due-preempts.result = omega arith in c.due-preempts.ensures.quiet t behind early);
  overlaps = still-sooner c.args.now (checked_plan c.args.plan.now) (rows_of c.args.self.now) c.overlaps_due-overlaps.result c.min-3.result c.overlaps_due-overlaps.ensures.still (omega arith);
  coordination = λ t behind before. (let early : t < c.due-coordination.result = omega arith in c.due-coordination.ensures.quiet t behind early);
}
