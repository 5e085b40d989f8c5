use Rattle.tsb_plan_text.proofs.NoteLemmas.{notes_change}
use Rattle.tsb_plan_text.proofs.laws.notes_change_nothing.Goals as goal

pub returns : goal.returns
returns c = notes_change
