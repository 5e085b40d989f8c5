use Rattle.std.proofs.Common.{arith, w16, ◌∙◌, sym}
use Rattle.tsb_types.proofs.BitLemmas.{names-put, names-put_other, names-taken, names-taken_other, taken-smaller}
use Rattle.tsb_types.proofs.number_set.NumberSet.with.Goals as goal

pub returns-then-on-clause-set : goal.returns-then-on-clause-set
returns-then-on-clause-set c = names-put w16 c.args.self.word c.args.number c.requires.from_one c.requires.within ∙ sym c.if-on.true

pub returns-then-on-clause-others : goal.returns-then-on-clause-others
returns-then-on-clause-others c = λ n other. names-put_other w16 c.args.self.word c.args.number n c.requires.from_one c.requires.within other

pub returns-else-on-clause-set : goal.returns-else-on-clause-set
returns-else-on-clause-set c = names-taken w16 c.args.self.word c.args.number c.requires.from_one c.requires.within ∙ sym c.if-on.false

pub returns-else-on-clause-others : goal.returns-else-on-clause-others
returns-else-on-clause-others c =
    λ n other. names-taken_other w16 c.args.self.word c.args.number n (omega arith) c.requires.from_one c.requires.within other

pub returns-else-on-clause-smaller : goal.returns-else-on-clause-smaller
returns-else-on-clause-smaller c = λ off had. taken-smaller w16 c.args.self.word c.args.number c.requires.from_one c.requires.within had
