use Rattle.std.proofs.Common.{rules}
use Rattle.tsb_plan_notes.proofs.entries.add_value_note.Goals as goal

pub returns-else-number-greatest : goal.returns-else-number-greatest
returns-else-number-greatest c = search rules fits 100
