use Rattle.std.proofs.Common.{rules}
use Rattle.tsb_live_text.proofs.run.tell_plan.Goals as goal

pub returns-in-Ok-clause-told : goal.returns-in-Ok-clause-told
returns-in-Ok-clause-told g c = search rules fits 100
