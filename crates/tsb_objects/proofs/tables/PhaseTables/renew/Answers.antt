use Rattle.std.proofs.Common.{◌≡◌, true, arith}
use Rattle.std.proofs.lemmas.Bool.Decides.{nat_tests}
use Rattle.tsb_plan.specs.PlanOf.{plan_of}
use Rattle.tsb_objects.proofs.AgreementLemmas.{same-phases}
use Rattle.tsb_objects.proofs.tables.PhaseTables.renew.Goals as goal

pub returns-else-not-agree_for_phases : goal.returns-else-not-agree_for_phases
unfolding plan_of
returns-else-not-agree_for_phases c =
    let agree : c.agree_for_phases.result ≡ true = grind (arith, nat_tests) in
    same-phases c.args.before.now.values c.args.plan.now.values c.args.self.now (c.agree_for_phases.ensures.0 agree) c.requires
