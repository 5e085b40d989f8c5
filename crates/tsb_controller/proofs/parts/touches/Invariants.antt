use Rattle.std.proofs.Common.{◌≡◌, length}
use Rattle.tsb_cells.specs.Diff.{part}
use Rattle.tsb_controller.proofs.parts.touches.Given as goal

-- no entry so far is of these cells
abbrev pub invariant-loop-cell : goal.invariant-loop-cell
invariant-loop-cell l = part l.offset l.count l.entries ≡ part l.offset l.count l.initial.entries

abbrev pub decreases-loop-cell : goal.decreases-loop-cell
decreases-loop-cell l = length l.entries
