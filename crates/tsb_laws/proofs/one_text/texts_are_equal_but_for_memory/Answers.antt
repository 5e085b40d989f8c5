use Rattle.tsb_laws.proofs.one_text.TextLemmas.{texts-part, one-text}
use Rattle.tsb_laws.proofs.one_text.ThereLemmas.{there-is}
use Rattle.tsb_laws.proofs.one_text.texts_are_equal_but_for_memory.Goals as goal

pub returns-clause-part : goal.returns-clause-part
returns-clause-part c = texts-part

pub returns-clause-one : goal.returns-clause-one
returns-clause-one c = one-text

pub returns-clause-some : goal.returns-clause-some
returns-clause-some c = there-is
