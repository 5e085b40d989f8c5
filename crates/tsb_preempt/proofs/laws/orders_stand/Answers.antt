use Rattle.tsb_preempt.proofs.OwnLemmas.{orders-stand}
use Rattle.tsb_preempt.proofs.laws.orders_stand.Goals as goal

pub returns : goal.returns
returns c = orders-stand
