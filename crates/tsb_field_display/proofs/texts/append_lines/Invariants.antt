use Rattle.std.proofs.Common.{drop}
use Rattle.tsb_event_text.specs.Written.{bytes_of}
use Rattle.tsb_field_display.proofs.SessionLineLemmas.{Stand}
use Rattle.tsb_field_display.proofs.texts.append_lines.Given as goal

-- the time is that of the tick; what is written, with lines of the rest, are lines of all
abbrev pub invariant-loop-event : goal.invariant-loop-event
invariant-loop-event l = Stand l.from l.device l.tick (bytes_of l.time) l.fn.text.items l.text.items (drop l.event-index l.events) l.events
