use Rattle.tsb_layer_runs.proofs.phasing.clear.Goals as goal

pub returns-in-Yellow-clause-by : goal.returns-in-Yellow-clause-by
returns-in-Yellow-clause-by c = c.clear.ensures.by c.args.now c.requires.by

pub returns-in-RedClear-clause-by : goal.returns-in-RedClear-clause-by
returns-in-RedClear-clause-by c = c.clear-in-RedClear.ensures.by c.args.now c.requires.by
