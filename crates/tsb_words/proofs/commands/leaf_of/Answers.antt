use Rattle.std.proofs.Common.{◌∙◌, ◌||◌, Bool, ap₂}
use Rattle.clap.specs.Simple.{new_app, with_rule}
use Rattle.tsb_words.proofs.CommandLemmas.{one-more}
use Rattle.tsb_words.specs.Commands.{rule_of_argument}
use Rattle.tsb_words.proofs.commands.leaf_of.Goals as goal

pub loop-argument-preserved : goal.loop-argument-preserved
loop-argument-preserved c =
    let at = c.loop-argument in
    let app = c.in-Ok.ensures.shape c.arg.ensures.own ∙ ap₂ with_rule at.invariant.0 c.arg.ensures.rule in (
      app ∙ one-more with_rule rule_of_argument (new_app c.args.leaf.now.name.now) c.args.leaf.now.arguments.now at.argument-index _ c.loop-argument-test.true,
      c.in-Ok.ensures.globals ∙ ap₂ (λ (old new : Bool). old || new) at.invariant.1 c.arg.ensures.own,
    )
