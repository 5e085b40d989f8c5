use Rattle.tsb_field_display.proofs.ReadLemmas.{header-read}
use Rattle.tsb_field_display.proofs.session_laws.the_header_is_read.Goals as goal

pub returns : goal.returns
returns c = header-read
