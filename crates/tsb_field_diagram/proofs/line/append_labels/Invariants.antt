use Rattle.std.proofs.Common.{◌≡◌, ◌++◌, drop}
use Rattle.tsb_field_diagram.specs.Lines.{labels_text}
use Rattle.tsb_field_diagram.proofs.line.append_labels.Given as goal

-- the labels so far, and those of the bands that are left, are all
abbrev pub invariant-loop-place : goal.invariant-loop-place
invariant-loop-place l = l.text.items ++ labels_text l.place (drop l.place l.bands) ≡ l.initial.text.items ++ labels_text 0 l.bands
