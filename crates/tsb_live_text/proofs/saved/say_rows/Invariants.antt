use Rattle.std.proofs.Common.{◌≡◌, drop, false}
use Rattle.json.specs.Print.{escape}
use Rattle.tsb_log_text.specs.Forms.{form_for}
use Rattle.tsb_log_text.specs.ListText.{text_in}
use Rattle.tsb_live_text.proofs.saved.SaysLemmas.{Saying}
use Rattle.tsb_live_text.proofs.saved.say_rows.Given as goal

abbrev pub invariant-loop-row : goal.invariant-loop-row
invariant-loop-row g l = record {
  saying : Saying (escape (text_in (form_for l.rows) l.rows)) (escape (text_in (form_for l.rows) (drop l.row-index l.rows))) (g.W.Write.contents l.fn.writer.device) (g.W.Write.contents l.writer.device) l.fn.pending l.pending;
  well : l.fn.writer.failed ≡ false → l.writer.failed ≡ false;
}
