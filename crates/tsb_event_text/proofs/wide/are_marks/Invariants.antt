use Rattle.std.proofs.Common.{◌≡◌, drop}
use Rattle.tsb_event_text.specs.Wide.{are_marks}
use Rattle.tsb_event_text.proofs.wide.are_marks.Given as goal

abbrev pub invariant-loop-byte : goal.invariant-loop-byte
invariant-loop-byte l = are_marks (drop l.byte-index l.text) ≡ are_marks l.text
