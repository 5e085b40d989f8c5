use Rattle.tsb_rules.proofs.ConsistentLemmas.{arrow_sound}
use Rattle.tsb_rules.proofs.consistent.arrows_are_sound.Goals as goal

pub returns : goal.returns
returns c = arrow_sound
