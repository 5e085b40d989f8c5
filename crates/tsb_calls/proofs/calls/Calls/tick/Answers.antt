use Rattle.tsb_objects.specs.Checked.{checked_plan}
use Rattle.tsb_calls.specs.Cells.{memories_in}
use Rattle.tsb_calls.specs.Layer.{cells_of}
use Rattle.tsb_calls.specs.Memories.{as_set}
use Rattle.tsb_calls.specs.Promises.{given_of}
use Rattle.tsb_calls.proofs.calls.Calls.tick.Goals as goal

pub returns-clause-called : goal.returns-clause-called
returns-clause-called c = λ p from within.
    let old = memories_in (cells_of c.args.self.now) in
    c.find_called.ensures (as_set (checked_plan c.args.plan.now) (given_of c.args.observed.now) old)
    (record {
      vehicles = λ q low high. c.vehicle_memories-vehicle.ensures old q low high (c.phases.ensures q);
      pedestrians = λ q low high. c.pedestrian_memories-pedestrian.ensures old q low high (c.phases-2.ensures q);
    }) p from within
