use Rattle.tsb_step.proofs.ClockLemmas.{no_clock_no_change, changes_the_counter_alone, changes_no_display}
use Rattle.tsb_step.proofs.clock_laws.a_clock_is_an_option.Goals as goal

pub returns-clause-without : goal.returns-clause-without
returns-clause-without c = no_clock_no_change

pub returns-clause-alone : goal.returns-clause-alone
returns-clause-alone c = changes_the_counter_alone

pub returns-clause-display : goal.returns-clause-display
returns-clause-display c = changes_no_display
