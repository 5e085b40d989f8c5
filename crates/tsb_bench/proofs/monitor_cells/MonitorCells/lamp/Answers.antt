use Rattle.std.proofs.Common.{rules}
use Rattle.tsb_bench.proofs.monitor_cells.MonitorCells.lamp.Goals as goal

pub returns-in_default : goal.returns-in_default
returns-in_default c = search rules fits 100
