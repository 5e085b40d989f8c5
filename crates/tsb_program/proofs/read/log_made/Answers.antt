use Rattle.std.proofs.Common.{rules}
use Rattle.tsb_program.proofs.read.log_made.Goals as goal

pub returns-in-Err-Memory : goal.returns-in-Err-Memory
returns-in-Err-Memory c = search rules fits 100
