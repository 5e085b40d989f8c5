use Rattle.tsb_cells.specs.Bank as bank
use Rattle.tsb_objects.specs.tsb_types.Sets.{has_detector}
use Rattle.tsb_detect.specs.Layer.{cells_of}
use Rattle.tsb_detect.proofs.RowLemmas.{row-list}
use Rattle.tsb_detect.proofs.detectors.Detectors.put_set.Goals as goal

pub returns-clause-rows : goal.returns-clause-rows
returns-clause-rows c = λ d from within.
    row-list (cells_of c.args.self.now) (bank.cells_of c.put_detectors.new.bank) c.args.k d (has_detector c.args.set d) c.requires.in_range from (c.put_detectors.ensures.told d) c.put_detectors.ensures.others
