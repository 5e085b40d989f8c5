use Rattle.std.proofs.Common.{arith}
use Rattle.tsb_lines.proofs.RoomLemmas.{at-most, then}
use Rattle.tsb_status_text.proofs.RoomLemmas.{part}
use Rattle.tsb_status_text.specs.StatusText.{phases_text}
use Rattle.tsb_status_text.proofs.groups.push_phases.Goals as goal

pub returns : goal.returns
unfolding phases_text
returns c =
    at-most (omega arith)
    (then c.push_set.ensures
    (then c.push_set-2.ensures
    (then c.push_set-3.ensures
    (then c.push_set-4.ensures
    (then c.push_set-5.ensures
    (then c.push_set-6.ensures
    (then c.push_set-7.ensures
    (then c.push_set-8.ensures
    (then c.push_set-9.ensures
    (then c.push_set-10.ensures
    (part c.push.ensures.line)))))))))))
