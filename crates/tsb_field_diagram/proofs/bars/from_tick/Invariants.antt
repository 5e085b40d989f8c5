use Rattle.std.proofs.Common.{◌≡◌, ◌-◌, ◌≤◌, length, drop}
use Rattle.tsb_field_diagram.specs.Bars.{from_tick}
use Rattle.tsb_field_diagram.proofs.bars.from_tick.Given as goal

-- what comes from here on is what is in force, and later
abbrev pub invariant-loop-from : goal.invariant-loop-from
invariant-loop-from g l = record {
  within : l.from ≤ length l.items;
  same : from_tick g.T.InForce.tick_of l.first (drop l.from l.items) ≡ from_tick g.T.InForce.tick_of l.first l.items;
}

abbrev pub decreases-loop-from : goal.decreases-loop-from
decreases-loop-from g l = length l.items - l.from
