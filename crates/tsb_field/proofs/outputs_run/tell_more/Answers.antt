use Rattle.std.proofs.Common.{rules}
use Rattle.tsb_field.proofs.outputs_run.tell_more.Goals as goal

pub returns-then-not-has_failed-clause-more : goal.returns-then-not-has_failed-clause-more
returns-then-not-has_failed-clause-more g c = search rules fits 100
