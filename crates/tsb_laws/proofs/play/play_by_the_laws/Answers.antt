use Rattle.std.proofs.Common.{List, subst}
use Rattle.tsb_step.specs.tsb_machine.declared.commands.Answer.{Answer}
use Rattle.tsb_step.specs.tsb_objects.Checked.{checked_plan}
use Rattle.tsb_step.specs.Play.{remaining}
use Rattle.tsb_bench.specs.Held.{state_of}
use Rattle.tsb_laws.specs.PlayLaws.{KeepsLaws}
use Rattle.tsb_laws.proofs.play.play_by_the_laws.Goals as goal

pub returns-clause-laws : goal.returns-clause-laws
returns-clause-laws c =
    subst (λ (answers : List Answer). KeepsLaws (checked_plan c.args.plan) (remaining (checked_plan c.args.plan) c.args.commands.now answers) (state_of c.in_ok-bench.bench))
    c.deref-2.ensures.value c.plays_keep_the_laws.ensures.now
