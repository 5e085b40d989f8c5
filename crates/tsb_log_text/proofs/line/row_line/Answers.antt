use Rattle.std.proofs.Common.{◌∙◌, ap, arith}
use Rattle.tsb_lines.proofs.ShortLemmas.{all-of, said, then}
use Rattle.tsb_log_text.specs.LogText.{row_line, set_marks}
use Rattle.tsb_log_text.proofs.line.row_line.Goals as goal

pub returns : goal.returns
unfolding row_line
returns c =
    all-of c.new-line.ensures (omega arith)
    (then (said c.seven_digits.ensures c.push.ensures.line)
    (then c.push-2.ensures.line
    (then (said (c.marks.ensures ∙ ap (set_marks 16) c.first_detectors.ensures) c.push-3.ensures.line)
    (then c.push-4.ensures.line
    (then (said c.marks-2.ensures c.push-5.ensures.line)
    (then c.push-6.ensures.line
    (then (said c.marks-3.ensures c.push-7.ensures.line)
    c.push-8.ensures.line)))))))
