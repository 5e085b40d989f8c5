use Rattle.tsb_field_display.proofs.ReadLemmas.{lines-read}
use Rattle.tsb_field_display.proofs.session_laws.lines_are_read.Goals as goal

pub returns : goal.returns
returns c = lines-read
