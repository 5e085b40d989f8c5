use Rattle.std.proofs.Common.{rules}
use Rattle.tsb_phase.proofs.moves.ended_row.Goals as goal

pub returns-clause-state : goal.returns-clause-state
returns-clause-state c = search rules fits 100

pub returns-clause-by : goal.returns-clause-by
returns-clause-by c = search rules fits 100
