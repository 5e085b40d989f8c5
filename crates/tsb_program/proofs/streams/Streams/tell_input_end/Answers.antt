use Rattle.std.proofs.Common.{rules}
use Rattle.tsb_program.proofs.TellLemmas.{input-told}
use Rattle.tsb_program.proofs.streams.Streams.tell_input_end.Goals as goal

pub returns-in_default : goal.returns-in_default
returns-in_default g c =
    (c.tell_end.ensures.0, input-told c.args.fault c.tell_end.result c.args.self.now.errors c.tell_end.new.self.errors c.in_default.not-Read c.tell_end.ensures.1)

pub returns-in-Read : goal.returns-in-Read
returns-in-Read g c = search rules fits 100
