use Rattle.std.proofs.Common.{◌≡◌, arith, sym}
use Rattle.tsb_plan.specs.Plan.{side_of}
use Rattle.tsb_plan.specs.PlanOf.{plan_of}
use Rattle.tsb_rules.proofs.RuleLemmas.{none-below}
use Rattle.tsb_rules.proofs.rules.sequences.rises_from.Goals as goal

pub returns-then-number-eq0 : goal.returns-then-number-eq0
unfolding plan_of
returns-then-number-eq0 c =
    let none : c.args.number ≡ 0 = omega (arith, c.if-number-eq0.true) in
    rw none (sym (none-below (side_of (plan_of c.args.plan.now)) c.args.places.now))
