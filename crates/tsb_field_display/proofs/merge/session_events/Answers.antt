use Rattle.std.proofs.Common.{rules}
use Rattle.tsb_field_display.specs.Merge.{session_events}
use Rattle.tsb_field_display.proofs.merge.session_events.Goals as goal

pub returns : goal.returns
unfolding session_events
returns c = search rules fits 100
