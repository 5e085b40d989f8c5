use Rattle.std.proofs.Common.{refl}
use Rattle.tsb_program.proofs.streams.Streams.tell.Goals as goal

pub returns-clause-line : goal.returns-clause-line
returns-clause-line g c = rw (← c.self.view_is) ((refl, refl), c.tell.ensures.line)
