use Rattle.std.proofs.Common.{rules}
use Rattle.tsb_status.proofs.times.until_over.Goals as goal

pub returns-in-Yellow : goal.returns-in-Yellow
returns-in-Yellow c = search rules fits 100
