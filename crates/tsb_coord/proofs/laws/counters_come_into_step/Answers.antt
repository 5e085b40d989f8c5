use Rattle.tsb_coord.proofs.CorrectionLemmas.{goes_on, takes_few_steps, comes_into_step, counts_in_step, forces_in_step}
use Rattle.tsb_coord.proofs.laws.counters_come_into_step.Goals as goal

pub returns-clause-goes_on : goal.returns-clause-goes_on
returns-clause-goes_on c = goes_on

pub returns-clause-steps : goal.returns-clause-steps
returns-clause-steps c = takes_few_steps

pub returns-clause-arrives : goal.returns-clause-arrives
returns-clause-arrives c = comes_into_step

pub returns-clause-stays : goal.returns-clause-stays
returns-clause-stays c = counts_in_step

pub returns-clause-forces : goal.returns-clause-forces
returns-clause-forces c = forces_in_step
