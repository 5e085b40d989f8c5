use Rattle.std.proofs.Common.{◌≡◌, ◌+◌, ◌-◌, ◌*◌, ◌≤◌, ◌<◌, ℕ, get_or, ◌++◌, drop, length, vec_len, vec_capacity}
use Rattle.tsb_history.specs.Bytes.{entries_bytes}
use Rattle.tsb_history.specs.History.{FitsEntry}
use Rattle.tsb_history.proofs.bytes.write_record.Given as goal

-- the bytes so far, and those of the entries that are left, are all
abbrev pub invariant-loop-i : goal.invariant-loop-i
invariant-loop-i l = record {
  room : vec_len l.bytes + 6 * (length l.entries - l.i) + 3 ≤ vec_capacity l.bytes;
  told : l.bytes.items ++ entries_bytes (drop l.i l.entries) ≡ l.fn.bytes.items ++ entries_bytes l.entries;
  capacity : vec_capacity l.fn.bytes ≤ vec_capacity l.bytes;
  fits : (k : ℕ) (d : ℕ × ℕ) → k < l.i → FitsEntry (get_or l.entries k d);
}
