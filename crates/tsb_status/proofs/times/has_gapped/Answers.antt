use Rattle.std.proofs.Common.{rules}
use Rattle.tsb_status.proofs.times.has_gapped.Goals as goal

pub returns-then-has_expired : goal.returns-then-has_expired
returns-then-has_expired c = search rules fits 100

pub returns-else-has_expired : goal.returns-else-has_expired
returns-else-has_expired c = search rules fits 100
