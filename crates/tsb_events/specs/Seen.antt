-- What the code keeps of what a log sees, as the definitions of events have it.
use Rattle.std.specs.Prelude.{◌-◌, slice_index}
use Rattle.tsb_step.specs.tsb_types.Sets.{has_detector, has_number}
use Rattle.tsb_step.specs.Events as events
use Rattle.tsb_events.specs.declared.seen.Seen.{Seen}
use Rattle.tsb_events.specs.declared.seen.Selected.{Selected}
use Rattle.tsb_events.specs.declared.seen.Found.{Found}

-- what is seen, set by set
abbrev pub view_of : Seen → events.View
view_of seen = record {
  greens = has_number seen.greens;
  yellows = has_number seen.yellows;
  red_clearances = has_number seen.red_clearances;
  red_timings = has_number seen.red_timings;
  conflicts = has_number seen.conflicts;
  walks = has_number seen.walks;
  clearances = has_number seen.clearances;
  vehicle_calls = has_number seen.vehicle_calls;
  pedestrian_calls = has_number seen.pedestrian_calls;
  recalls = has_number seen.recalls;
  pedestrian_recalls = has_number seen.pedestrian_recalls;
  overlap_greens = has_number seen.overlap_greens;
  overlap_trails = has_number seen.overlap_trails;
  overlap_yellows = has_number seen.overlap_yellows;
  overlap_arrows = has_number seen.overlap_arrows;
  overlaps_off = has_number seen.overlaps_off;
  outputs = has_detector seen.outputs;
  alarms = has_detector seen.alarms;
  switches = has_number seen.switches;
  preempts = has_number seen.preempts;
  tracks = has_number seen.tracks;
  dwells = has_number seen.dwells;
  exits = has_number seen.exits;
  is_preempted = seen.is_preempted;
  stage_is_green = seen.stage_is_green;
  cycle = seen.cycle;
  crosses = seen.crosses;
  side = seen.side;
  flashes = seen.flashes;
}

-- the selected pattern
abbrev pub selected_of : Selected → events.Selected
selected_of s = record {
  pattern = s.pattern;
  cycle = s.cycle;
  offset = s.offset;
  split = λ p. slice_index s.splits (p - 1);
}

-- what a tick alone finds
abbrev pub found_of : Found → events.Found
found_of f = record {
  minimum = has_number f.minimum;
  gap = has_number f.gap;
  maximum = has_number f.maximum;
  force_off = has_number f.force_off;
  noted = f.noted;
  row = f.row;
  zero = f.zero;
  yields = has_number f.yields;
  served = f.served;
}
