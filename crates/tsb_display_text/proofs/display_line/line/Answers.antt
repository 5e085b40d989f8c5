use Rattle.tsb_display_text.proofs.display_line.line.Goals as goal

pub returns-in_default : goal.returns-in_default
returns-in_default c = absurd (c.in_default.ensures.cases.0 c.line_bytes-bytes.ensures.text)
