use Rattle.tsb_layer_runs.proofs.phasing.unforced.Goals as goal

pub returns-clause-by : goal.returns-clause-by
returns-clause-by c = c.unforce.ensures.by c.args.now c.requires.by
