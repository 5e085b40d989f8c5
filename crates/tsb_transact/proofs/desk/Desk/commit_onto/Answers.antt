use Rattle.std.proofs.Common.{rules}
use Rattle.tsb_transact.proofs.desk.Desk.commit_onto.Goals as goal

pub returns-in-None-clause-committed : goal.returns-in-None-clause-committed
returns-in-None-clause-committed c = search rules fits 100
