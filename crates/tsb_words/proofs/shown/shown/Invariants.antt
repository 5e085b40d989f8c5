use Rattle.std.proofs.Common.{◌≡◌, length, map, take}
use Rattle.tsb_words.specs.Shown.{safe}
use Rattle.tsb_words.proofs.shown.shown.Given as goal

abbrev pub invariant-loop-byte : goal.invariant-loop-byte
invariant-loop-byte l = record {
  text : l.text.items ≡ map safe (take l.byte-index l.front);
  count : length l.text.items ≡ l.byte-index;
}
