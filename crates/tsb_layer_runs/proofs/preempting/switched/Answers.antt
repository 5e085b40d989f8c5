use Rattle.tsb_layer_runs.proofs.preempting.switched.Goals as goal

pub returns-clause-by : goal.returns-clause-by
returns-clause-by c = c.switch.ensures.by c.args.now c.requires.by
