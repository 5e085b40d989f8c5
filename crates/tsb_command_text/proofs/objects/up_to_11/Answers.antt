use Rattle.std.proofs.Common.{rules}
use Rattle.tsb_command_text.specs.Objects.{named_among}
use Rattle.tsb_plan.specs.Objects.{objects}
use Rattle.tsb_command_text.proofs.objects.up_to_11.Goals as goal

pub returns : goal.returns
unfolding named_among objects
returns c = search rules fits 100
