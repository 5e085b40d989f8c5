use Rattle.std.proofs.Common.{rules}
use Rattle.tsb_events.proofs.pattern.tell_selection.Goals as goal

pub returns-clause-told : goal.returns-clause-told
returns-clause-told c = search rules fits 100
