use Rattle.tsb_coord.proofs.OffsetLemmas.{ask_alike, plain_offset}
use Rattle.tsb_coord.proofs.laws.offsets_act_by_when_local_0_comes.Goals as goal

pub returns-clause-alike : goal.returns-clause-alike
returns-clause-alike c = ask_alike

pub returns-clause-plain : goal.returns-clause-plain
returns-clause-plain c = plain_offset
