use Rattle.tsb_step.proofs.WaitLackLemmas.{due-starts}
use Rattle.tsb_step.proofs.wait_laws.due_phases_start.Goals as goal

pub returns : goal.returns
returns c = due-starts
