use Rattle.std.proofs.Common.{rules}
use Rattle.tsb_status.proofs.told.waiting.Goals as goal

pub returns-clause-value : goal.returns-clause-value
returns-clause-value c = search rules fits 100
