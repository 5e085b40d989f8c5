use Rattle.std.proofs.Common.{◌≡◌, ◌++◌, drop, take}
use Rattle.tsb_field_diagram.specs.Bars.{before_tick}
use Rattle.tsb_field_diagram.proofs.bars.before_tick.Given as goal

-- what was passed is before the tick
abbrev pub invariant-loop-index : goal.invariant-loop-index
invariant-loop-index g l =
    before_tick g.T.InForce.tick_of l.end l.items ≡ take l.index l.items ++ before_tick g.T.InForce.tick_of l.end (drop l.index l.items)
