use Rattle.std.proofs.Common.{◌≤◌, ℕ, List, arith, length, subst, sym}
use Rattle.tsb_lines.proofs.RoomLemmas.{at-most, then}
use Rattle.tsb_field_streams.proofs.RoomLemmas.{part}
use Rattle.tsb_field_streams.proofs.clocks.push_clock.Goals as goal

pub returns : goal.returns
returns c =
    at-most (omega arith) (then (part {most = 9} c.clock_head.ensures (subst (λ (t : List ℕ). length t ≤ 9) (sym c.clock_head.ensures) (omega arith)) c.push.ensures.line) c.push_fraction.ensures)
