use Rattle.std.proofs.Common.{rules}
use Rattle.tsb_program.proofs.streams.Streams.refuse.Goals as goal

pub returns-in-Failed : goal.returns-in-Failed
returns-in-Failed g c = search rules fits 100
