use Rattle.std.proofs.Common.{rules}
use Rattle.tsb_transact.proofs.desk.Desk.commit_refusal.Goals as goal

pub returns-then-must_wait : goal.returns-then-must_wait
returns-then-must_wait c = search rules fits 100

pub returns : goal.returns
returns c = search rules fits 100
