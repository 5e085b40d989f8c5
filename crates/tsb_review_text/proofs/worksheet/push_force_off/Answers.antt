use Rattle.std.proofs.Common.{arith, refl}
use Rattle.tsb_review_text.proofs.RowLemmas.{part}
use Rattle.tsb_review_text.proofs.worksheet.push_force_off.Goals as goal

pub returns-in-None : goal.returns-in-None
returns-in-None c = rw c.in-None.is (part refl (omega arith) c.push.ensures.line)

pub returns-in-Some : goal.returns-in-Some
returns-in-Some c = rw c.in-Some.is c.push_named.ensures
