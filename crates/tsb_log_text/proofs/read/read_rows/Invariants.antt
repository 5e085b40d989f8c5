use Rattle.std.proofs.Common.{◌≡◌, ◌+◌, length, suc}
use Rattle.tsb_lines.specs.Lines.{lines_of}
use Rattle.tsb_log_text.proofs.ReadLemmas.{IsAfter}
use Rattle.tsb_log_text.proofs.read.read_rows.Given as goal

abbrev pub invariant-loop-last : goal.invariant-loop-last
invariant-loop-last l = record {
  after : IsAfter l.form l.text (lines_of l.rest) l.rows.items l.number l.last;
  count : l.number + length (lines_of l.rest) ≡ suc (length (lines_of l.text));
}

abbrev pub decreases-loop-last : goal.decreases-loop-last
decreases-loop-last l = length (lines_of l.rest)
