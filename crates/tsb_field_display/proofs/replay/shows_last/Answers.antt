use Rattle.std.proofs.Common.{◌∙◌, sym}
use Rattle.tsb_field_display.proofs.ReplayLemmas.{shows_last-at}
use Rattle.tsb_field_display.proofs.replay.shows_last.Goals as goal

pub returns : goal.returns
returns c = c.same.ensures ∙ sym (shows_last-at c.args.lines.now _ c.args.signals.now (sym c.is_empty.ensures ∙ c.if-is_empty.false))
