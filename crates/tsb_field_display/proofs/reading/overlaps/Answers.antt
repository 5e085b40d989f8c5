use Rattle.std.proofs.Common.{rules}
use Rattle.tsb_field_display.proofs.reading.overlaps.Goals as goal

pub returns-then-is_wide : goal.returns-then-is_wide
returns-then-is_wide c = search rules fits 100
