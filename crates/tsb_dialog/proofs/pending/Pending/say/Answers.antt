use Rattle.std.proofs.Common.{rules}
use Rattle.tsb_dialog.proofs.pending.Pending.say.Goals as goal

pub returns-then-remaining_capacity-lt-LINE-clause-ok : goal.returns-then-remaining_capacity-lt-LINE-clause-ok
returns-then-remaining_capacity-lt-LINE-clause-ok g c = search rules fits 100
