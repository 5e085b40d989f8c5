use Rattle.std.proofs.Common.{◌≤◌, bit_or, arith}
use Rattle.std.proofs.lemmas.Nat.{le_or_l, le_or_r}
use Rattle.tsb_preempt.proofs.cells.either.Goals as goal

pub returns-clause-one : goal.returns-clause-one
returns-clause-one c = λ none. let below : c.args.one ≤ bit_or c.args.one c.args.other = le_or_l c.args.one c.args.other in omega (arith, below, none)

pub returns-clause-other : goal.returns-clause-other
returns-clause-other c = λ none. let below : c.args.other ≤ bit_or c.args.one c.args.other = le_or_r c.args.one c.args.other in omega (arith, below, none)
