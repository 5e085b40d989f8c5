use Rattle.std.proofs.Common.{rules}
use Rattle.tsb_field_display.proofs.texts.log_text.Goals as goal

pub returns-in-Ok : goal.returns-in-Ok
returns-in-Ok c = search rules fits 100
