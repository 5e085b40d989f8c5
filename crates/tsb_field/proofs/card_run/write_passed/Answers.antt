use Rattle.std.proofs.Common.{rules}
use Rattle.tsb_field.proofs.card_run.write_passed.Goals as goal

pub returns-in-Ok-clause-whole : goal.returns-in-Ok-clause-whole
returns-in-Ok-clause-whole g c = search rules fits 100
