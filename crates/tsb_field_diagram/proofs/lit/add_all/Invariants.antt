use Rattle.std.proofs.Common.{◌≡◌, ◌-◌, ◌++◌}
use Rattle.tsb_field_diagram.specs.Lit.{bands_on}
use Rattle.tsb_field_diagram.proofs.lit.add_all.Given as goal

-- the bands so far, and those of the numbers that are left, are all
abbrev pub invariant-loop-before : goal.invariant-loop-before
invariant-loop-before l =
    l.bands.items ++ bands_on l.changes l.rows l.kind l.before (l.count - l.before) ≡ l.initial.bands.items ++ bands_on l.changes l.rows l.kind 0 l.count
