use Rattle.tsb_step.proofs.SafeLemmas.{acts_in_either_order}
use Rattle.tsb_step.proofs.laws.rings_act_in_either_order.Goals as goal

pub returns : goal.returns
returns c = acts_in_either_order
