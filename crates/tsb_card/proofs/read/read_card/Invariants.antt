use Rattle.std.proofs.Common.{◌≡◌, ◌+◌, ◌≤◌, length, suc}
use Rattle.tsb_lines.specs.Lines.{lines_of}
use Rattle.tsb_card.specs.Reading.{Reads, pairs_from}
use Rattle.tsb_card.proofs.read.read_card.Given as goal

-- the card so far, and the lines that are left, give what all give
abbrev pub invariant-loop-card : goal.invariant-loop-card
invariant-loop-card l = record {
  read : Reads l.card (pairs_from l.count (lines_of l.rest)) (pairs_from 1 (lines_of l.text));
  count : l.count + length (lines_of l.rest) ≡ suc (length (lines_of l.text));
  size : length l.text ≤ 65536;
}

abbrev pub decreases-loop-card : goal.decreases-loop-card
decreases-loop-card l = length (lines_of l.rest)
