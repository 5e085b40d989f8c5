use Rattle.std.proofs.Common.{◌≡◌, ◌-◌, ◌++◌}
use Rattle.tsb_field_diagram.specs.Lit.{phases_on}
use Rattle.tsb_field_diagram.proofs.lit.add_phases.Given as goal

-- the bands so far, and those of the phases that are left, are all
abbrev pub invariant-loop-before : goal.invariant-loop-before
invariant-loop-before l =
    l.bands.items ++ phases_on l.changes l.rows l.before (16 - l.before) ≡ l.initial.bands.items ++ phases_on l.changes l.rows 0 16
