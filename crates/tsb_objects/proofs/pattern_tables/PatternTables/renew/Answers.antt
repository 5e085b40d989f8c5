use Rattle.std.proofs.Common.{◌≡◌, true, arith}
use Rattle.std.proofs.lemmas.Bool.Decides.{nat_tests}
use Rattle.tsb_plan.specs.PlanOf.{plan_of}
use Rattle.tsb_objects.proofs.AgreementLemmas.{same-patterns}
use Rattle.tsb_objects.proofs.pattern_tables.PatternTables.renew.Goals as goal

pub returns-else-not-agree_for_patterns : goal.returns-else-not-agree_for_patterns
unfolding plan_of
returns-else-not-agree_for_patterns c =
    let agree : c.agree_for_patterns.result ≡ true = grind (arith, nat_tests) in
    same-patterns c.args.before.now.values c.args.plan.now.values c.args.self.now (c.agree_for_patterns.ensures.0 agree) c.requires
