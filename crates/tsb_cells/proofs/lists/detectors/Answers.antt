use Rattle.std.proofs.Common.{rules}
use Rattle.tsb_cells.proofs.lists.detectors.Goals as goal

pub returns : goal.returns
returns g c = search rules fits 100
