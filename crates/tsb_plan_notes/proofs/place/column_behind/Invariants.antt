use Rattle.std.proofs.Common.{◌≡◌, ◌≤◌, ◌+◌, take}
use Rattle.tsb_plan_notes.specs.Places.{column_behind}
use Rattle.tsb_plan_notes.proofs.place.column_behind.Given as goal

abbrev pub invariant-loop-byte : goal.invariant-loop-byte
invariant-loop-byte l = record {
  column : l.column ≡ column_behind (take l.byte-index l.bytes);
  bound : l.column ≤ l.byte-index + 1;
}
