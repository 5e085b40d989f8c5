use Rattle.std.proofs.Common.{rules}
use Rattle.tsb_plan_notes.proofs.newer.since_of.Goals as goal

pub returns-in-None : goal.returns-in-None
returns-in-None c = search rules fits 100
