use Rattle.tsb.proofs.TwoLemmas.{two-breaks-none}
use Rattle.tsb.proofs.run.run_built_in.Goals as goal

pub returns-in-Err : goal.returns-in-Err
returns-in-Err g c = absurd (two-breaks-none _ c.in-Err.rule c.two.ensures c.in-Err.ensures)
