use Rattle.std.proofs.Common.{rules}
use Rattle.tsb_transact.proofs.cells.blank.Goals as goal

pub returns-clause-zero : goal.returns-clause-zero
returns-clause-zero c = search rules fits 100
