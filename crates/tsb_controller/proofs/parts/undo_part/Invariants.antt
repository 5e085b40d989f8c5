use Rattle.std.proofs.Common.{◌≡◌, ◌≢◌, true, false, [], length}
use Rattle.tsb_cells.specs.Diff.{apply_diff, part}
use Rattle.tsb_controller.proofs.parts.undo_part.Given as goal

-- What is left to be put back leads to what all of it leads to. Where no entry so far was of the row, it has stayed.
-- Where one was, or where what is left has one, the record has an entry of the row.
abbrev pub invariant-loop-cell : goal.invariant-loop-cell
invariant-loop-cell g l = record {
  rest : apply_diff (g.R.Reversible.cells l.row) (part l.offset g.row.N l.entries) ≡
      apply_diff (g.R.Reversible.cells l.initial.row) (part l.offset g.row.N l.change.entries);
  closed : g.R.Reversible.is_open l.row ≡ false;
  stays : l.touched ≡ false → l.row ≡ l.initial.row;
  touched : l.touched ≡ true → part l.offset g.row.N l.change.entries ≢ [];
  more : part l.offset g.row.N l.entries ≢ [] → part l.offset g.row.N l.change.entries ≢ [];
}

abbrev pub decreases-loop-cell : goal.decreases-loop-cell
decreases-loop-cell g l = length l.entries
