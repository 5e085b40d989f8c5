use Rattle.std.proofs.Common.{rules}
use Rattle.tsb_event_text.proofs.time_forms.time_form_word.Goals as goal

pub returns-in-DayFirst : goal.returns-in-DayFirst
returns-in-DayFirst c = search rules fits 100
