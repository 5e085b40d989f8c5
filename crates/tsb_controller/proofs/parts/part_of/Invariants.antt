use Rattle.std.proofs.Common.{◌≡◌, ◌++◌, length}
use Rattle.tsb_cells.specs.Diff.{part}
use Rattle.tsb_controller.proofs.parts.part_of.Given as goal

-- the part so far, and the part of what is left, is the part
abbrev pub invariant-loop-cell : goal.invariant-loop-cell
invariant-loop-cell g l = record {
  told : l.part.items ++ part l.offset g.row.N l.entries ≡ part l.offset g.row.N l.initial.entries;
}

abbrev pub decreases-loop-cell : goal.decreases-loop-cell
decreases-loop-cell g l = length l.entries
