use Rattle.tsb_laws.proofs.times_left.ForceOffLemmas.{force_offs_come}
use Rattle.tsb_laws.proofs.times_left.force_offs_come_as_shown.Goals as goal

pub returns : goal.returns
returns c = force_offs_come
