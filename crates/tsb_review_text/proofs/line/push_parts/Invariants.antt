use Rattle.std.proofs.Common.{◌≡◌, ◌++◌, drop}
use Rattle.tsb_lines.specs.ShortLines.{fitting}
use Rattle.tsb_review_text.specs.declared.line.TheConstants.{LONGEST}
use Rattle.tsb_review_text.specs.Bytes.{ended}
use Rattle.tsb_review_text.specs.Lines.{part}
use Rattle.tsb_review_text.proofs.line.push_parts.Given as goal

-- the bytes so far, and those that are left, are all
abbrev pub invariant-loop-byte : goal.invariant-loop-byte
invariant-loop-byte l = fitting LONGEST (l.line ++ ended (part l.numbers) l.end (drop l.byte-index l.text)) ≡ fitting LONGEST (l.fn.line ++ ended (part l.numbers) l.end l.text)
