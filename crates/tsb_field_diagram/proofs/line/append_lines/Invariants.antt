use Rattle.std.proofs.Common.{◌≡◌, ◌≤◌, ◌-◌, ◌++◌, ℕ}
use Rattle.tsb_field_diagram.specs.Bands.{tick_of_change, tick_of_row}
use Rattle.tsb_field_diagram.specs.Bars.{from_tick}
use Rattle.tsb_field_diagram.specs.Lines.{first_tick, lines_text}
use Rattle.tsb_field_diagram.proofs.line.append_lines.Given as goal

-- what is left over is what is in force from this line on, and the lines so far, with those that are left, are all
abbrev pub invariant-loop-line : goal.invariant-loop-line
invariant-loop-line l = record {
  changes : (t : ℕ) → first_tick l.scale.seconds l.line ≤ t → from_tick tick_of_change t l.changes ≡ from_tick tick_of_change t l.initial.changes;
  rows : (t : ℕ) → first_tick l.scale.seconds l.line ≤ t → from_tick tick_of_row t l.rows ≡ from_tick tick_of_row t l.initial.rows;
  text :
      l.text.items ++ lines_text l.bands l.scale l.initial.changes l.initial.rows l.line (l.count - l.line)
      ≡ l.initial.text.items ++ lines_text l.bands l.scale l.initial.changes l.initial.rows 0 l.count;
}
