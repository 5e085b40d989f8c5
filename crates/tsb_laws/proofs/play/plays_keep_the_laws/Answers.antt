use Rattle.std.specs.Prelude.{drop}
use Rattle.tsb_step.specs.Past.{earlier}
use Rattle.tsb_step.specs.Play.{remaining}
use Rattle.tsb_step.specs.tsb_objects.Checked.{checked_plan}
use Rattle.tsb_bench.specs.Held.{state_of, whole}
use Rattle.tsb_laws.proofs.play.RunLemmas.{laws_now, taken_without}
use Rattle.tsb_laws.proofs.way_back.PlanLemmas.{checked_is_held}
use Rattle.tsb_laws.proofs.play.plays_keep_the_laws.Goals as goal

pub returns-clause-now : goal.returns-clause-now
returns-clause-now c =
    laws_now (checked_plan c.args.plan) (checked_is_held c.args.plan) (remaining (checked_plan c.args.plan) c.args.commands.now c.args.answers.now)
    (state_of c.args.bench.now) c.requires.taken c.requires.state

pub returns-clause-earlier : goal.returns-clause-earlier
returns-clause-earlier c k few =
    laws_now (checked_plan c.args.plan) (checked_is_held c.args.plan) (drop k (remaining (checked_plan c.args.plan) c.args.commands.now c.args.answers.now))
    (earlier (whole c.args.bench.now) k).state
    (taken_without (checked_plan c.args.plan) k (remaining (checked_plan c.args.plan) c.args.commands.now c.args.answers.now) c.requires.taken)
    (c.requires.earlier k few)
