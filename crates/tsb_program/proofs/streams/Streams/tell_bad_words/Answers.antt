use Rattle.std.proofs.Common.{rules}
use Rattle.tsb_program.proofs.streams.Streams.tell_bad_words.Goals as goal

pub returns-in-None : goal.returns-in-None
returns-in-None g c = search rules fits 100
