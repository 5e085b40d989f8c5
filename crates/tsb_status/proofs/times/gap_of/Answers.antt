use Rattle.std.proofs.Common.{rules}
use Rattle.tsb_status.proofs.times.gap_of.Goals as goal

pub returns-in-On : goal.returns-in-On
returns-in-On c = search rules fits 100
