use Rattle.std.proofs.Common.{rules}
use Rattle.tsb_command_text.specs.Objects.{named_among}
use Rattle.tsb_plan.specs.Objects.{objects}
use Rattle.tsb_command_text.proofs.objects.of_14.Goals as goal

pub returns-then-is-2 : goal.returns-then-is-2
unfolding named_among objects
returns-then-is-2 c = search rules fits 100
