use Rattle.std.proofs.Common.{arith}
use Rattle.tsb_plan_text.proofs.LimitLemmas.{answered_too_large}
use Rattle.tsb_plan_text.proofs.SaysLemmas.{answer_says}
use Rattle.tsb_plan_text.proofs.read.read_plan.Goals as goal

pub returns-clause-says : goal.returns-clause-says
returns-clause-says c = answer_says c.versions_say_the_same.ensures.apart c.read_short.result c.args.text.now c.read_short.ensures.reads

pub returns-clause-too_large : goal.returns-clause-too_large
returns-clause-too_large c =
    (λ e. answered_too_large c.read_short.result c.args.text.now c.read_short.ensures.reads e, λ l. absurd (omega (arith, l, c.if-text-gt-LIMIT.false)))
