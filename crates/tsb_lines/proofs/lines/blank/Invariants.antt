use Rattle.std.proofs.Common.{◌≡◌, drop}
use Rattle.tsb_lines.specs.Lines.{is_blank}
use Rattle.tsb_lines.proofs.lines.blank.Given as goal

abbrev pub invariant-loop-byte : goal.invariant-loop-byte
invariant-loop-byte l = is_blank (drop l.byte-index l.line) ≡ is_blank l.line
