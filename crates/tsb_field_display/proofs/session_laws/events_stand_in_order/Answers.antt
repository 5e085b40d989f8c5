use Rattle.tsb_field_display.proofs.SessionLemmas.{stand-in-order}
use Rattle.tsb_field_display.proofs.session_laws.events_stand_in_order.Goals as goal

pub returns : goal.returns
returns c = stand-in-order
