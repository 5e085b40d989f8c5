use Rattle.std.proofs.Common.{◌≡◌, ◌∙◌, ap}
use Rattle.clap.specs.Simple.{App, Shape, app_of, with_subcommand}
use Rattle.tsb_words.proofs.CommandLemmas.{one-more}
use Rattle.tsb_words.specs.Commands.{leaf_shape}
use Rattle.tsb_words.proofs.commands.with_subcommands.Goals as goal

with-same : (app same : App) (shape : Shape) → app ≡ same → with_subcommand app shape ≡ with_subcommand same shape
with-same app same shape e = ap (λ (a : App). with_subcommand a shape) e

pub loop-subcommand-preserved : goal.loop-subcommand-preserved
loop-subcommand-preserved c =
    let at = c.loop-subcommand in
    c.in-Ok.ensures ∙ (with-same _ _ _ at.invariant
    ∙ one-more with_subcommand leaf_shape (app_of c.args.top) c.args.subcommands.now at.subcommand-index _ c.loop-subcommand-test.true)
