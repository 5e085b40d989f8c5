use Rattle.std.proofs.Common.{◌+◌, ◌-◌, refl, arith}
use Rattle.tsb_review_text.proofs.WeekLemmas.{new-century}
use Rattle.tsb_review_text.proofs.week.date_of.Goals as goal

pub returns : goal.returns
returns c = new-century c.args.days (c.args.days - 36525 + 1) (omega arith) (omega arith) refl
