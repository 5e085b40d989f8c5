use Rattle.std.proofs.Common.{◌∙◌}
use Rattle.tsb_lines.proofs.ShortLemmas.{said, then}
use Rattle.tsb_status_text.proofs.edits.push_edit.Goals as goal

pub returns : goal.returns
returns c =
    then c.push.ensures.line
    (then (said (c.as_bytes.ensures.value ∙ c.name.ensures) c.push-2.ensures.line)
    (then c.push-3.ensures.line
    (then c.push_number.ensures.line
    (then c.push-4.ensures.line
    (then c.push_number-2.ensures.line
    c.push-5.ensures.line)))))
