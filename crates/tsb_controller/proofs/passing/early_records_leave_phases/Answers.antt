use Rattle.tsb_controller.proofs.EarlyLemmas.{early-leave}
use Rattle.tsb_controller.proofs.passing.early_records_leave_phases.Goals as goal

pub returns : goal.returns
returns c = early-leave
