use Rattle.std.proofs.Common.{rules}
use Rattle.tsb_phase.proofs.phases.Phases.store_lists.Goals as goal

pub returns-clause-row : goal.returns-clause-row
returns-clause-row c = search rules fits 100
