use Rattle.std.proofs.Common.{◌∙◌, ap}
use Rattle.std.proofs.lemmas.Result.{IfOk-weaker}
use Rattle.clap.specs.Simple.{App}
use Rattle.tsb_words.specs.Commands.{app_over}
use Rattle.tsb_words.proofs.commands.command_of.Goals as goal

pub returns-in-Ok : goal.returns-in-Ok
returns-in-Ok c =
    IfOk-weaker c.with_subcommands.result _ _
    (λ command h. h ∙ ap (λ (top : App). app_over top c.args.program.now.subcommands.now) c.in-Ok.ensures.0) c.with_subcommands.ensures
