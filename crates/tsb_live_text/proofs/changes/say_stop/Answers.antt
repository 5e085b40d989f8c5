use Rattle.std.proofs.Common.{◌++◌}
use Rattle.tsb_dialog.specs.Said.{with_feed}
use Rattle.tsb_dialog.proofs.SaidLemmas.{until-more}
use Rattle.tsb_text.specs.Answers.{refused_line}
use Rattle.tsb_live_text.specs.Changes.{owed}
use Rattle.tsb_live_text.proofs.changes.say_stop.Goals as goal

pub returns-clause-said : goal.returns-clause-said
returns-clause-said g c =
    until-more c.say_refusal.result _ _ _ _ _ _ (owed c.args.is_owed c.args.line.now) (c.args.echo.now ++ with_feed (refused_line c.args.refusal.now)) c.in_ok-say_owed.ensures.said c.say_refusal.ensures.said
