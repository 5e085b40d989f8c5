use Rattle.std.proofs.Common.{◌≡◌, arith, sym}
use Rattle.tsb_plan.specs.PlanOf.{plan_of}
use Rattle.tsb_rules.specs.Asked.{named_meets}
use Rattle.tsb_rules.proofs.RuleLemmas.{named_none}
use Rattle.tsb_rules.proofs.rules.lists.each_named.Goals as goal

pub returns-then-list-eq0 : goal.returns-then-list-eq0
unfolding plan_of
returns-then-list-eq0 c =
    let none : c.args.list ≡ 0 = omega (arith, c.if-list-eq0.true) in
    rw none (sym (named_none (named_meets c.args.asked (plan_of c.args.plan.now)) 16))
