use Rattle.std.proofs.Common.{rules}
use Rattle.tsb_text.proofs.recording.outcome_of.Goals as goal

pub returns-in-Some : goal.returns-in-Some
returns-in-Some c = search rules fits 100
