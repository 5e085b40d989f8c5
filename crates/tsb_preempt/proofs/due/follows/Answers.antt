use Rattle.std.proofs.Common.{arith}
use Rattle.std.proofs.lemmas.Bool.Decides.{nat_tests}
use Rattle.tsb_preempt.proofs.SetLemmas.{followed}
use Rattle.tsb_preempt.proofs.due.follows.Goals as goal

pub returns : goal.returns
returns c = λ h t. followed t c.args.cell c.args.on (grind (arith, nat_tests, h))
