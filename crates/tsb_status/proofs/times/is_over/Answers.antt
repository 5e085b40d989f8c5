use Rattle.std.proofs.Common.{rules}
use Rattle.tsb_phase.specs.Ready.{is_over}
use Rattle.tsb_status.proofs.times.is_over.Goals as goal

pub returns-in-RedClear : goal.returns-in-RedClear
unfolding is_over
returns-in-RedClear c = search rules fits 100
