use Rattle.tsb_laws.proofs.times_left.YellowLemmas.{yellows_end}
use Rattle.tsb_laws.proofs.times_left.yellows_end_as_shown.Goals as goal

pub returns : goal.returns
returns c = yellows_end
