use Rattle.tsb_step.specs.Play.{remaining}
use Rattle.tsb_step.specs.tsb_objects.Checked.{checked_plan}
use Rattle.tsb_bench.specs.Held.{state_of}
use Rattle.tsb_laws.proofs.play.RunLemmas.{records_now}
use Rattle.tsb_laws.proofs.way_back.PlanLemmas.{checked_is_held}
use Rattle.tsb_laws.proofs.play.plays_keep_the_records.Goals as goal

pub returns : goal.returns
returns c =
    records_now (checked_plan c.args.plan) (checked_is_held c.args.plan) (remaining (checked_plan c.args.plan) c.args.commands.now c.args.answers.now)
    (state_of c.args.bench.now) c.requires.taken c.requires.typed c.requires.state
