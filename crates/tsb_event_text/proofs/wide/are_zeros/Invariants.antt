use Rattle.std.proofs.Common.{◌≡◌, drop}
use Rattle.tsb_event_text.specs.Wide.{are_zeros}
use Rattle.tsb_event_text.proofs.wide.are_zeros.Given as goal

abbrev pub invariant-loop-byte : goal.invariant-loop-byte
invariant-loop-byte l = are_zeros (drop l.byte-index l.text) ≡ are_zeros l.text
