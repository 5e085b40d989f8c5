use Rattle.std.proofs.Common.{subst}
use Rattle.tsb_step.specs.Play.{Cmd}
use Rattle.tsb_step.specs.tsb_objects.Checked.{checked_plan}
use Rattle.tsb_laws.specs.PlayRecords.{IsTypedCommand}
use Rattle.tsb_laws.proofs.play.TypedLemmas.{typed_more, typed_all, remaining_typed}
use Rattle.tsb_laws.proofs.play.inputs_are_typed.Goals as goal

pub loop-command-init : goal.loop-command-init
loop-command-init c = record { typed = tt }

pub loop-command-preserved : goal.loop-command-preserved
loop-command-preserved c = record {
  typed = typed_more c.args.commands.now c.loop-command.command-index _ c.loop-command-test.true c.loop-command.invariant.typed
      (subst (λ (cmd : Cmd). IsTypedCommand cmd) c.command-item.is c.command_is_typed.ensures);
}

pub returns : goal.returns
returns c =
    remaining_typed (checked_plan c.args.plan) c.args.commands.now c.args.answers.now
    (typed_all c.args.commands.now c.loop-command.command-index c.loop-command-test.false c.loop-command.invariant.typed)
