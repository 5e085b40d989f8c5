use Rattle.std.proofs.Common.{◌≡◌, ◌&&◌, arith, sym}
use Rattle.tsb_plan.specs.Plan.{is_enabled}
use Rattle.tsb_plan.specs.PlanOf.{plan_of}
use Rattle.tsb_rules.specs.Rules.{goes_with_all}
use Rattle.tsb_rules.proofs.RuleLemmas.{named_none}
use Rattle.tsb_rules.proofs.rules.lists.names_concurrent.Goals as goal

pub returns-then-list-eq0 : goal.returns-then-list-eq0
unfolding plan_of
returns-then-list-eq0 c =
    let none : c.args.list ≡ 0 = omega (arith, c.if-list-eq0.true) in
    rw none (sym (named_none (λ p. is_enabled (plan_of c.args.plan.now) p && goes_with_all (plan_of c.args.plan.now) 0 p) 16))
