use Rattle.std.proofs.Common.{arith, w16}
use Rattle.tsb_types.proofs.BitLemmas.{names-first, names-before_first}
use Rattle.tsb_types.proofs.number_set.NumberSet.first.Goals as goal

pub returns-else-self-eq0-clause-had : goal.returns-else-self-eq0-clause-had
returns-else-self-eq0-clause-had c = names-first w16 c.args.self.word (omega arith) c.if-self-eq0.false

pub returns-else-self-eq0-clause-least : goal.returns-else-self-eq0-clause-least
returns-else-self-eq0-clause-least c = λ m below. names-before_first w16 c.args.self.word m (omega arith) c.if-self-eq0.false below
