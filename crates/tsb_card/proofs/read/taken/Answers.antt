use Rattle.std.proofs.Common.{◌∙◌, sym}
use Rattle.tsb_card.proofs.ReadLemmas.{step-fault, step-pair, step-skipped}
use Rattle.tsb_card.proofs.read.taken.Goals as goal

pub returns-then-is_skipped : goal.returns-then-is_skipped
returns-then-is_skipped c = step-skipped c.args.card c.args.number c.args.line.now (sym c.if-is_skipped.ensures)

pub returns-in-Some : goal.returns-in-Some
returns-in-Some c = step-pair c.args.card c.with.result c.args.number c.args.line.now c.in-Some.lower c.in-Some.higher (sym c.if-is_skipped.ensures) (sym c.pair_of.ensures.pair ∙ c.in-Some.is) c.with.ensures

pub returns-in-None : goal.returns-in-None
returns-in-None c = step-fault c.args.card c.args.number c.args.line.now (sym c.if-is_skipped.ensures) (sym c.pair_of.ensures.pair ∙ c.in-None.is)
