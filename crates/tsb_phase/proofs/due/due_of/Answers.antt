use Rattle.tsb_phase.specs.Promises.{given_of}
use Rattle.tsb_phase.proofs.due.due_of.Goals as goal

pub returns-then-was-2 : goal.returns-then-was-2
returns-then-was-2 c = λ t. c.due_yellow.ensures (given_of c.args.conditions.now) c.args.now t c.requires.by

pub returns-then-was-3 : goal.returns-then-was-3
returns-then-was-3 c = c.due_red_clear.ensures (given_of c.args.conditions.now)
