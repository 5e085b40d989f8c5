use Rattle.std.proofs.Common.{◌≡◌, ◌≤◌, ◌-◌, ◌++◌, length, take, drop}
use Rattle.tsb_field_display.specs.Merge.{ahead_of, not_ahead_of}
use Rattle.tsb_field_display.proofs.merge.count_ahead_of.Given as goal

-- those counted, with those of the rest, are all that come before it; and what follows those of the rest follows all
abbrev pub invariant-loop-count : goal.invariant-loop-count
invariant-loop-count l = record {
  within : l.count ≤ length l.events;
  ahead : take l.count l.events ++ ahead_of l.event (drop l.count l.events) ≡ ahead_of l.event l.events;
  rest : not_ahead_of l.event (drop l.count l.events) ≡ not_ahead_of l.event l.events;
}

abbrev pub decreases-loop-count : goal.decreases-loop-count
decreases-loop-count l = length l.events - l.count
