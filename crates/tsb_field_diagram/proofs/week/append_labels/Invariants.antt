use Rattle.std.proofs.Common.{◌≡◌, ◌++◌, drop}
use Rattle.tsb_field_diagram.specs.Week.{of_each, week_label}
use Rattle.tsb_field_diagram.proofs.week.append_labels.Given as goal

-- the labels so far, and those of the bands that are left, are all
abbrev pub invariant-loop-index : goal.invariant-loop-index
invariant-loop-index l = l.text.items ++ of_each week_label (drop l.index l.bands) ≡ l.initial.text.items ++ of_each week_label l.bands
