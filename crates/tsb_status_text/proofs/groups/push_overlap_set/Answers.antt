use Rattle.std.proofs.Common.{arith}
use Rattle.tsb_lines.proofs.RoomLemmas.{at-most, then}
use Rattle.tsb_status_text.proofs.RoomLemmas.{part}
use Rattle.tsb_types.specs.Sets.{has_number}
use Rattle.tsb_status_text.proofs.ListLemmas.{sixteen}
use Rattle.tsb_status_text.proofs.groups.push_overlap_set.Goals as goal

pub returns : goal.returns
returns c =
    at-most (omega arith)
    (then (part c.push.ensures.line)
    (sixteen (has_number c.args.set) c.push_numbers.ensures))
