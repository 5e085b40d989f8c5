use Rattle.std.proofs.Common.{◌∙◌, sym}
use Rattle.tsb_field_display.proofs.EventLemmas.{no-events}
use Rattle.tsb_field_display.proofs.SameLemmas.{same-signals}
use Rattle.tsb_field_display.proofs.events.events_between.Goals as goal

pub returns-then-same : goal.returns-then-same
returns-then-same c = c.new-events.ensures ∙ sym (no-events _ _ (same-signals _ _ (sym c.same.ensures ∙ c.if-same.true)))
