use Rattle.tsb_calls.specs.Cells.{memories_in}
use Rattle.tsb_calls.specs.Layer.{cells_of}
use Rattle.tsb_calls.proofs.calls.Calls.standing.Goals as goal

pub returns : goal.returns
returns c = λ p from within.
    c.find_standing.ensures (memories_in (cells_of c.args.self.now))
    (record { vehicles = λ q low high. c.phases-vehicle.ensures q; pedestrians = λ q low high. c.phases-pedestrian.ensures q }) p from within
