use Rattle.std.proofs.Common.{arith}
use Rattle.tsb_lines.proofs.RoomLemmas.{at-most, then}
use Rattle.tsb_field_streams.proofs.fault_lines.push_cure.Goals as goal

pub returns : goal.returns
returns c =
    at-most (omega arith) (then c.push_sort.ensures c.push_column.ensures)
