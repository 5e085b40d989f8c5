use Rattle.std.proofs.Common.{arith}
use Rattle.tsb_lines.proofs.RoomLemmas.{at-most}
use Rattle.tsb_status_text.proofs.RoomLemmas.{part}
use Rattle.tsb_status_text.proofs.waits.push_members.Goals as goal

pub returns-in-Flash : goal.returns-in-Flash
returns-in-Flash c = rw c.in-Flash.is (at-most (omega arith) (part c.push.ensures.line))

pub returns-in-Omitted : goal.returns-in-Omitted
returns-in-Omitted c = rw c.in-Omitted.is (at-most (omega arith) (part c.push-in-Omitted.ensures.line))

pub returns-in-Due : goal.returns-in-Due
returns-in-Due c = rw c.in-Due.is (at-most (omega arith) (part c.push-in-Due.ensures.line))

pub returns-in-Turn : goal.returns-in-Turn
returns-in-Turn c = rw c.in-Turn.is (at-most (omega arith) (part c.push-in-Turn.ensures.line))

pub returns-in-RedRevert : goal.returns-in-RedRevert
returns-in-RedRevert c = rw c.in-RedRevert.is (at-most (omega arith) c.push_left.ensures)

pub returns-in-Crossing : goal.returns-in-Crossing
returns-in-Crossing c = rw c.in-Crossing.is (at-most (omega arith) c.push_keeper.ensures)

pub returns-in-Barrier : goal.returns-in-Barrier
returns-in-Barrier c = rw c.in-Barrier.is (at-most (omega arith) c.push_keeper-in-Barrier.ensures)

pub returns-in-Preempted : goal.returns-in-Preempted
returns-in-Preempted c = rw c.in-Preempted.is (at-most (omega arith) c.push_preempt.ensures)

pub returns-in-Next : goal.returns-in-Next
returns-in-Next c = rw c.in-Next.is (at-most (omega arith) c.push_only.ensures)

pub returns-in-Conflict : goal.returns-in-Conflict
returns-in-Conflict c = rw c.in-Conflict.is (at-most (omega arith) c.push_only-in-Conflict.ensures)

pub returns-in-Clears : goal.returns-in-Clears
returns-in-Clears c = rw c.in-Clears.is (at-most (omega arith) c.push_clearing.ensures)

pub returns-in-Across : goal.returns-in-Across
returns-in-Across c = rw c.in-Across.is (at-most (omega arith) c.push_clearing-in-Across.ensures)

pub returns-in-Beside : goal.returns-in-Beside
returns-in-Beside c = rw c.in-Beside.is (at-most (omega arith) c.push_clearing-in-Beside.ensures)

pub returns-in-Green : goal.returns-in-Green
returns-in-Green c = rw c.in-Green.is (at-most (omega arith) c.push_green.ensures)

pub returns-in-Trails : goal.returns-in-Trails
returns-in-Trails c = rw c.in-Trails.is (at-most (omega arith) c.push_trailing.ensures)
