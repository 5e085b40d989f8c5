use Rattle.std.proofs.Common.{rules}
use Rattle.tsb_transact.proofs.desk.DeskReversibleCELLS.undo.Goals as goal

pub returns-clause-cells : goal.returns-clause-cells
returns-clause-cells c = search rules fits 100
