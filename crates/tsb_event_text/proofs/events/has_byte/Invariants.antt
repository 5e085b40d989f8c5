use Rattle.std.proofs.Common.{◌≡◌, drop}
use Rattle.tsb_event_text.specs.Events.{has_byte}
use Rattle.tsb_event_text.proofs.events.has_byte.Given as goal

abbrev pub invariant-loop-other : goal.invariant-loop-other
invariant-loop-other l = has_byte l.byte (drop l.other-index l.text) ≡ has_byte l.byte l.text
