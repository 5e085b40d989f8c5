use Rattle.std.proofs.Common.{rules}
use Rattle.tsb_transact.specs.Cells.{desk_in}
use Rattle.tsb_transact.proofs.desk.Desk.begin_refusal.Goals as goal

pub returns-in-Some : goal.returns-in-Some
unfolding desk_in
returns-in-Some c = search rules fits 100
