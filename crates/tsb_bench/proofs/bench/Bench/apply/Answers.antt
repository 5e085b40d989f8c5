use Rattle.tsb_bench.proofs.bench.Bench.apply.Goals as goal

pub returns-in-Tick-clause-refused : goal.returns-in-Tick-clause-refused
returns-in-Tick-clause-refused c = rw c.in-Tick.is c.take_tick.ensures.refused
