use Rattle.tsb_laws.proofs.heads.ClearLemmas.{phase_clears, overlap_clears}
use Rattle.tsb_laws.proofs.heads.lit_heads_clear_in_yellow.Goals as goal

pub returns-clause-phases : goal.returns-clause-phases
returns-clause-phases c = phase_clears

pub returns-clause-overlaps : goal.returns-clause-overlaps
returns-clause-overlaps c = overlap_clears
