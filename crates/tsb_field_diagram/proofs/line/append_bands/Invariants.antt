use Rattle.std.proofs.Common.{◌≡◌, ◌++◌, drop}
use Rattle.tsb_field_diagram.specs.Lines.{bands_text}
use Rattle.tsb_field_diagram.proofs.line.append_bands.Given as goal

-- the bars so far, and those of the bands that are left, are all
abbrev pub invariant-loop-place : goal.invariant-loop-place
invariant-loop-place l =
    l.text.items ++ bands_text l.first l.end l.changes l.rows l.place (drop l.place l.bands)
    ≡ l.initial.text.items ++ bands_text l.first l.end l.changes l.rows 0 l.bands
