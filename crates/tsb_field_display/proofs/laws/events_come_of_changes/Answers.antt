use Rattle.tsb_field_display.proofs.LawLemmas.{come-of-changes}
use Rattle.tsb_field_display.proofs.laws.events_come_of_changes.Goals as goal

pub returns : goal.returns
returns c = come-of-changes
