use Rattle.std.proofs.Common.{◌∙◌}
use Rattle.tsb_review_text.proofs.WriteLemmas.{wrote-said}
use Rattle.tsb_review_text.proofs.worksheet.write_preempt.Goals as goal

pub returns : goal.returns
returns g c = wrote-said c.write_text.result _ _ c.as_bytes.result.now _ (c.as_bytes.ensures.bytes ∙ c.preempt_line-line.ensures) c.write_text.ensures.whole c.write_text.ensures.front c.write_text.ensures.blame c.write_text.ensures.well
