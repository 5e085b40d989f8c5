use Rattle.std.proofs.Common.{rules}
use Rattle.tsb_status.proofs.waits.free_wait.Goals as goal

pub returns-then-around : goal.returns-then-around
returns-then-around c = search rules fits 100
