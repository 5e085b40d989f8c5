use Rattle.std.proofs.Common.{rules}
use Rattle.tsb_detect.specs.Cells.{row_in}
use Rattle.tsb_detect.proofs.detectors.Detectors.load.Goals as goal

pub returns : goal.returns
unfolding row_in
returns c = search rules fits 300
