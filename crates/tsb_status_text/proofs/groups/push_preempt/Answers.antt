use Rattle.std.proofs.Common.{[], arith}
use Rattle.tsb_lines.proofs.RoomLemmas.{at-most}
use Rattle.tsb_status_text.proofs.RoomLemmas.{named-as}
use Rattle.tsb_status_text.proofs.groups.push_preempt.Goals as goal

pub returns : goal.returns
returns c =
    at-most (omega (arith, c.preempt_name.ensures.short))
    (named-as [] c.preempt_name.ensures.name c.push_named.ensures)
