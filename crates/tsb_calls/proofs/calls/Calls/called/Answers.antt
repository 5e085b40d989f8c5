use Rattle.tsb_calls.specs.Cells.{memories_in}
use Rattle.tsb_calls.specs.Layer.{cells_of}
use Rattle.tsb_calls.proofs.calls.Calls.called.Goals as goal

pub returns : goal.returns
returns c = λ p from within.
    c.find_called.ensures (memories_in (cells_of c.args.self.now))
    (record { vehicles = λ q low high. c.phases-vehicles.ensures q; pedestrians = λ q low high. c.phases-pedestrians.ensures q }) p from within
