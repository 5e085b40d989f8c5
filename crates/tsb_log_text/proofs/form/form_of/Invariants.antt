use Rattle.std.proofs.Common.{◌≡◌, length}
use Rattle.tsb_lines.specs.Lines.{lines_of}
use Rattle.tsb_log_text.specs.Forms.{form_of}
use Rattle.tsb_log_text.proofs.form.form_of.Given as goal

-- all lines so far are skipped
abbrev pub invariant-loop-behind : goal.invariant-loop-behind
invariant-loop-behind l = form_of (lines_of l.rest) ≡ form_of (lines_of l.text)

abbrev pub decreases-loop-behind : goal.decreases-loop-behind
decreases-loop-behind l = length (lines_of l.rest)
