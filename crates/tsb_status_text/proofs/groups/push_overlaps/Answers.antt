use Rattle.std.proofs.Common.{arith}
use Rattle.tsb_lines.proofs.RoomLemmas.{at-most, then}
use Rattle.tsb_status_text.specs.StatusText.{overlaps_text}
use Rattle.tsb_status_text.proofs.groups.push_overlaps.Goals as goal

pub returns : goal.returns
unfolding overlaps_text
returns c =
    at-most (omega arith)
    (then c.push_overlap_set.ensures
    (then c.push_overlap_set-2.ensures
    (then c.push_overlap_set-3.ensures
    c.push_arrows.ensures)))
