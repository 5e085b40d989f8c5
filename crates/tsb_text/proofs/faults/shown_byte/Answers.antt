use Rattle.std.proofs.Common.{rules}
use Rattle.tsb_text.proofs.faults.shown_byte.Goals as goal

pub returns-in_default : goal.returns-in_default
returns-in_default c = search rules fits 100

pub returns-in_default-2 : goal.returns-in_default-2
returns-in_default-2 c = search rules fits 100
