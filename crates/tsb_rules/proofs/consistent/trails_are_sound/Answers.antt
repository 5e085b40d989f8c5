use Rattle.tsb_rules.proofs.ConsistentLemmas.{trail_sound}
use Rattle.tsb_rules.proofs.consistent.trails_are_sound.Goals as goal

pub returns : goal.returns
returns c = trail_sound
