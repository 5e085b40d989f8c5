use Rattle.std.proofs.Common.{rules}
use Rattle.tsb_field_display.proofs.reading.is_whole.Goals as goal

pub returns-else-is_wide-clause-whole : goal.returns-else-is_wide-clause-whole
returns-else-is_wide-clause-whole c = search rules fits 100
