use Rattle.tsb_field_display.proofs.SessionLemmas.{all-told}
use Rattle.tsb_field_display.proofs.session_laws.all_events_are_told.Goals as goal

pub returns : goal.returns
returns c = all-told
