use Rattle.tsb_text.proofs.recording.CommandLemmas.{lines_leave_what_remains}
use Rattle.tsb_text.proofs.recording.laws.records_are_of_what_remains.Goals as goal

pub returns : goal.returns
returns c = lines_leave_what_remains
