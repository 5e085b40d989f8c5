use Rattle.std.proofs.Common.{rules}
use Rattle.tsb_text.proofs.recording.faults.fault_line.Goals as goal

pub returns : goal.returns
returns c = search rules fits 100
