use Rattle.tsb_field_streams.proofs.ZoneLemmas.{zones-are-seen}
use Rattle.tsb_field_streams.proofs.zone_laws.zones_are_seen.Goals as goal

pub returns : goal.returns
returns c = zones-are-seen
