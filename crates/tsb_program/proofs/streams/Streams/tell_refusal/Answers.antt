use Rattle.std.proofs.Common.{rules}
use Rattle.tsb_program.proofs.streams.Streams.tell_refusal.Goals as goal

pub returns-in-Ok : goal.returns-in-Ok
returns-in-Ok g c = search rules fits 300
