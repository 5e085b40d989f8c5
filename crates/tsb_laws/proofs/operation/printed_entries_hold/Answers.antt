use Rattle.tsb_laws.proofs.operation.preempt.WorksheetLemmas.{printed_entries}
use Rattle.tsb_laws.proofs.operation.printed_entries_hold.Goals as goal

pub returns : goal.returns
returns c = printed_entries
