use Rattle.tsb_card.proofs.ChannelLemmas.{by-phases}
use Rattle.tsb_card.proofs.laws.cards_permit_by_phases.Goals as goal

pub returns : goal.returns
returns c = by-phases
