use Rattle.tsb_ring.proofs.GivenUpLemmas.{given_up_is_sound, left_of_target, all_stays}
use Rattle.tsb_ring.proofs.laws.giving_up_keeps_rings_sound.Goals as goal

pub returns-clause-sound : goal.returns-clause-sound
returns-clause-sound c = given_up_is_sound

pub returns-clause-left : goal.returns-clause-left
returns-clause-left c = left_of_target

pub returns-clause-spared : goal.returns-clause-spared
returns-clause-spared c = all_stays
