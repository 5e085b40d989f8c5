use Rattle.std.proofs.Common.{◌≡◌, ◌+◌, ◌≤◌, length, suc}
use Rattle.tsb_lines.specs.Lines.{lines_of}
use Rattle.tsb_field_diagram.specs.Ends.{ends_from, with_ends}
use Rattle.tsb_field_diagram.proofs.ends.read_ends.Given as goal

-- the ends so far, and those of the lines that are left, are all
abbrev pub invariant-loop-ends : goal.invariant-loop-ends
invariant-loop-ends l = record {
  read : with_ends l.ends.items (ends_from l.from l.number (lines_of l.rest)) ≡ ends_from l.from 1 (lines_of l.text);
  count : l.number + length (lines_of l.rest) ≡ suc (length (lines_of l.text));
  size : length l.text ≤ 67108864;
}

abbrev pub decreases-loop-ends : goal.decreases-loop-ends
decreases-loop-ends l = length (lines_of l.rest)
