use Rattle.std.proofs.Common.{◌≡◌, true, arith}
use Rattle.std.proofs.lemmas.Bool.Decides.{nat_tests}
use Rattle.tsb_plan.specs.PlanOf.{plan_of}
use Rattle.tsb_objects.proofs.AgreementLemmas.{same-detectors}
use Rattle.tsb_objects.proofs.detector_tables.DetectorTables.renew.Goals as goal

pub returns-else-not-agree_for_detectors : goal.returns-else-not-agree_for_detectors
unfolding plan_of
returns-else-not-agree_for_detectors c =
    let agree : c.agree_for_detectors.result ≡ true = grind (arith, nat_tests) in
    same-detectors c.args.before.now.values c.args.plan.now.values c.args.self.now (c.agree_for_detectors.ensures.0 agree) c.requires
