use Rattle.std.proofs.Common.{◌∙◌, ap}
use Rattle.std.proofs.lemmas.Result.{IfOk-weaker}
use Rattle.clap.specs.Simple.{App, app_of, with_subcommand}
use Rattle.tsb_words.proofs.commands.with_subcommand.Goals as goal

pub returns-in-Ok : goal.returns-in-Ok
returns-in-Ok c =
    IfOk-weaker c.subcommand.result _ _
    (λ more h. h.shape c.in-Ok.ensures.1 ∙ ap (λ (leaf : App). with_subcommand (app_of c.args.command) leaf.top) c.in-Ok.ensures.0)
    c.subcommand.ensures
