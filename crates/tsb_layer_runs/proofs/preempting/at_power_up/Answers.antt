use Rattle.tsb_layer_runs.proofs.preempting.at_power_up.Goals as goal

pub returns-clause-by : goal.returns-clause-by
returns-clause-by c = c.new.ensures.by 0
