-- The status that a plain value means.
use Rattle.std.specs.Prelude.{ℕ, ◌-◌, None, option_map, get_or}
use Rattle.tsb_step.specs.tsb_types.Sets.{has_detector, has_number}
use Rattle.tsb_step.specs.tsb_ring.Rings.{Ring, Ring1, Ring2}
use Rattle.tsb_step.specs.declared.status.RingPart.TheVariants as parts
use Rattle.tsb_step.specs.declared.status.PreemptState.TheVariants as preempt_states
use Rattle.tsb_step.specs.Status as statuses
use Rattle.tsb_status.specs.declared.status.RingStatus.{RingStatus}
use Rattle.tsb_status.specs.declared.status.Status.{Status}

-- a ring that serves nothing, and whose times are all none
abbrev pub resting : RingStatus
resting = record {
  part = parts.RedRest;
  phase = None;
  next = None;
  initial_left = None;
  gap = None;
  gap_left = None;
  maximum_left = None;
  walk_left = None;
  clearance_left = None;
  yellow_left = None;
  red_clearance_left = None;
  force_off_in = None;
}

-- the place of a ring
abbrev pub ring_place : Ring → ℕ
ring_place Ring1 = 0
ring_place Ring2 = 1

-- a ring
abbrev pub ring_status_of : RingStatus → statuses.RingStatus
ring_status_of x = record {
  part = x.part;
  phase = x.phase;
  next = x.next;
  initial_left = x.initial_left;
  gap = x.gap;
  gap_left = x.gap_left;
  maximum_left = x.maximum_left;
  walk_left = x.walk_left;
  clearance_left = x.clearance_left;
  yellow_left = x.yellow_left;
  red_clearance_left = x.red_clearance_left;
  force_off_in = x.force_off_in;
}

-- the status: preempts and phases are from the first on
abbrev pub status_of : Status → statuses.Status
status_of x = record {
  now = x.now;
  reds = has_number x.reds;
  yellows = has_number x.yellows;
  greens = has_number x.greens;
  dont_walks = has_number x.dont_walks;
  pedestrian_clears = has_number x.pedestrian_clears;
  walks = has_number x.walks;
  vehicle_calls = has_number x.vehicle_calls;
  pedestrian_calls = has_number x.pedestrian_calls;
  phase_ons = has_number x.phase_ons;
  phase_nexts = has_number x.phase_nexts;
  overlap_reds = has_number x.overlap_reds;
  overlap_yellows = has_number x.overlap_yellows;
  overlap_greens = has_number x.overlap_greens;
  overlap_arrows = option_map has_number x.overlap_arrows;
  active = has_detector x.active;
  alarms = has_detector x.alarms;
  preempt = λ n. get_or x.preempts (n - 1) preempt_states.NotActive;
  pattern = x.pattern;
  free = x.free;
  local = x.local;
  sync = x.sync;
  time = x.time;
  flash = x.flash;
  owner = x.owner;
  desk = x.desk;
  ring = λ r. ring_status_of (get_or x.rings (ring_place r) resting);
  wait = λ p. get_or x.waits (p - 1) None;
}
