use Rattle.std.proofs.Common.{rules}
use Rattle.tsb_phase.proofs.green.gap_has_expired.Goals as goal

pub returns : goal.returns
returns c = search rules fits 100
