use Rattle.std.proofs.Common.{arith, refl}
use Rattle.tsb_lines.proofs.RoomLemmas.{at-most, then}
use Rattle.tsb_field_streams.proofs.RoomLemmas.{part}
use Rattle.tsb_field_streams.proofs.fault_lines.push_of_field.Goals as goal

pub returns : goal.returns
returns c =
    at-most (omega arith) (then c.push_field.ensures (part {most = 85} refl c.requires c.push.ensures.line))
