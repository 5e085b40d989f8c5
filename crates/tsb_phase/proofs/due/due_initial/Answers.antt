use Rattle.std.proofs.Common.{rules}
use Rattle.tsb_phase.proofs.due.due_initial.Goals as goal

pub returns-in-Some-clause-least : goal.returns-in-Some-clause-least
returns-in-Some-clause-least c = search rules fits 100
