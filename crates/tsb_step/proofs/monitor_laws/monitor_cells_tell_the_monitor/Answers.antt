use Rattle.tsb_step.proofs.MonitorLemmas.{rows-told, state-read, rows-stay}
use Rattle.tsb_step.proofs.monitor_laws.monitor_cells_tell_the_monitor.Goals as goal

pub returns-clause-told : goal.returns-clause-told
returns-clause-told c = rows-told

pub returns-clause-read : goal.returns-clause-read
returns-clause-read c = state-read

pub returns-clause-stay : goal.returns-clause-stay
returns-clause-stay c = rows-stay
