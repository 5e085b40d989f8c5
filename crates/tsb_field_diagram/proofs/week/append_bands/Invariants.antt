use Rattle.std.proofs.Common.{◌≡◌, ◌++◌, drop}
use Rattle.tsb_field_diagram.specs.Week.{of_each, week_band}
use Rattle.tsb_field_diagram.proofs.week.append_bands.Given as goal

-- the bands so far, and those of the bands that are left, are all
abbrev pub invariant-loop-index : goal.invariant-loop-index
invariant-loop-index l = l.text.items ++ of_each week_band (drop l.index l.bands) ≡ l.initial.text.items ++ of_each week_band l.bands
