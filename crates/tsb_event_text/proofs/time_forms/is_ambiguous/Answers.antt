use Rattle.std.proofs.Common.{rules}
use Rattle.tsb_event_text.proofs.time_forms.is_ambiguous.Goals as goal

pub returns-then-is_in : goal.returns-then-is_in
returns-then-is_in c = search rules fits 100

pub returns-else-is_in : goal.returns-else-is_in
returns-else-is_in c = search rules fits 100
