use Rattle.std.proofs.Common.{rules}
use Rattle.tsb_transact.proofs.desk.Desk.found_against.Goals as goal

pub returns-in-Ok : goal.returns-in-Ok
returns-in-Ok c = search rules fits 100
