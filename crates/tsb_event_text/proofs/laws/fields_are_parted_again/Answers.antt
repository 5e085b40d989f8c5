use Rattle.tsb_event_text.proofs.PartLemmas.{parted}
use Rattle.tsb_event_text.proofs.laws.fields_are_parted_again.Goals as goal

pub returns : goal.returns
returns c = parted
