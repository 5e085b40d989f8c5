use Rattle.std.proofs.Common.{arith}
use Rattle.std.proofs.lemmas.Grind.{common_steps}
use Rattle.tsb_objects.proofs.pattern_tables.permissive_end_at.Goals as goal

pub returns-then-at-end : goal.returns-then-at-end
returns-then-at-end c = grind (arith, common_steps)
