use Rattle.std.proofs.Common.{◌≡◌, true, arith}
use Rattle.std.proofs.lemmas.Bool.Decides.{nat_tests}
use Rattle.tsb_plan.specs.PlanOf.{plan_of}
use Rattle.tsb_objects.proofs.AgreementLemmas.{same-unions}
use Rattle.tsb_objects.proofs.union_tables.UnionTables.renew.Goals as goal

pub returns-else-not-agree_for_unions : goal.returns-else-not-agree_for_unions
unfolding plan_of
returns-else-not-agree_for_unions c =
    let agree : c.agree_for_unions.result ≡ true = grind (arith, nat_tests) in
    same-unions c.args.before.now.values c.args.plan.now.values c.args.self.now (c.agree_for_unions.ensures.0 agree) c.requires.before
