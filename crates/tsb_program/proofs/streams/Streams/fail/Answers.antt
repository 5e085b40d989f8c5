use Rattle.std.proofs.Common.{rules}
use Rattle.tsb_program.proofs.streams.Streams.fail.Goals as goal

pub returns : goal.returns
returns g c = search rules fits 300
