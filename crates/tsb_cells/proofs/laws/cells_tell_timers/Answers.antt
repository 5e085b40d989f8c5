use Rattle.tsb_cells.specs.TimerLaws.{timer_at-timer_cell}
use Rattle.tsb_cells.proofs.TimerLemmas.{timer_cell-timer_at, timer_cell-le, IsWithin-timer_at}
use Rattle.tsb_cells.proofs.laws.cells_tell_timers.Goals as goal

pub returns-clause-cells : goal.returns-clause-cells
returns-clause-cells c = timer_cell-timer_at

pub returns-clause-timers : goal.returns-clause-timers
returns-clause-timers c = timer_at-timer_cell

pub returns-clause-in_time : goal.returns-clause-in_time
returns-clause-in_time c = timer_cell-le

pub returns-clause-began : goal.returns-clause-began
returns-clause-began c = IsWithin-timer_at
