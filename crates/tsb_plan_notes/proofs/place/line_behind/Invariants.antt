use Rattle.std.proofs.Common.{◌≡◌, ◌≤◌, ◌+◌, take}
use Rattle.tsb_plan_notes.specs.Places.{line_behind}
use Rattle.tsb_plan_notes.proofs.place.line_behind.Given as goal

abbrev pub invariant-loop-byte : goal.invariant-loop-byte
invariant-loop-byte l = record {
  line : l.line ≡ line_behind (take l.byte-index l.bytes);
  bound : l.line ≤ l.byte-index + 1;
}
