use Rattle.tsb_coord.proofs.ClockLemmas.{counts_from_tick_0, counts_from_midnight, counts_alike}
use Rattle.tsb_coord.proofs.laws.counters_count_from_midnight.Goals as goal

pub returns-clause-without : goal.returns-clause-without
returns-clause-without c = counts_from_tick_0

pub returns-clause-counts : goal.returns-clause-counts
returns-clause-counts c = counts_from_midnight

pub returns-clause-alike : goal.returns-clause-alike
returns-clause-alike c = counts_alike
