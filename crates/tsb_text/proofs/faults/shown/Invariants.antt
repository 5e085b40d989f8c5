use Rattle.std.proofs.Common.{◌≡◌, length, map, take}
use Rattle.tsb_text.specs.Faults.{shown_byte}
use Rattle.tsb_text.proofs.faults.shown.Given as goal

abbrev pub invariant-loop-byte : goal.invariant-loop-byte
invariant-loop-byte l = record {
  text : l.text.items ≡ map shown_byte (take l.byte-index l.front);
  count : length l.text.items ≡ l.byte-index;
}
