use Rattle.std.proofs.Common.{arith}
use Rattle.std.proofs.lemmas.Grind.{common_steps}
use Rattle.tsb_field_display.proofs.reading.are_overlaps.Goals as goal

pub returns-then-not-matches : goal.returns-then-not-matches
returns-then-not-matches c = grind (arith, common_steps)
