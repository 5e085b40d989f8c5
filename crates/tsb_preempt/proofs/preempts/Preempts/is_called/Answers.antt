use Rattle.std.proofs.Common.{rules}
use Rattle.tsb_preempt.specs.Cells.{preempts_in}
use Rattle.tsb_preempt.proofs.preempts.Preempts.is_called.Goals as goal

pub returns-then-delay-ne0 : goal.returns-then-delay-ne0
unfolding preempts_in
returns-then-delay-ne0 c = search rules fits 100

pub returns-else-delay-ne0 : goal.returns-else-delay-ne0
unfolding preempts_in
returns-else-delay-ne0 c = search rules fits 100
